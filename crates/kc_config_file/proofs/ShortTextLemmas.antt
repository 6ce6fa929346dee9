-- The lines of a written text are not too long to be read again.
use Rattle.std.proofs.{Common.{Bool, List, None, Option, Some, [], ap, append-nil, append_assoc, arith, codes, cond, false, length, refl, subst, sym, take, true, ℕ, ◌++◌, ◌+◌, ◌<◌, ◌∙◌, ◌∷◌, ◌≡◌, ◌≤◌}, lemmas.{Bool.lt-ltb, List.{Elements.{All-append, All-cons, All-nil}, length-append}, Option.slice_get-get_or}}
use Rattle.std.specs.{List.{Contains, enumerate_from, flat_map}, Prelude.{All, slice_get}}
use Rattle.kc_language.specs.{ConfigFile.{Line, Notation, is_prefix, is_within, lines_from}, Expressions.{SymbolValue, TextValue, Truth}, Lines.is_line_feed, Symbols.{CommentShown, EndShown, MenuShown, Shown, SymbolShown, TreeFacts}, Text.escape, Texts.{HasShortLines, SolutionView, config_file_line, config_text, end_is_last, entry_text, is_shown, minimal_text, shown_title, symbol_config, title_lines, valuation_view}, Values.{GivenValue, UserPlace, known_from, name as name_of, name_count}, declared.expressions.{SymId.SymId, Tri.TheVariants.{M, N, Y}}}
use Rattle.kc_text.specs.PartsOfText.{one_more}
use Rattle.kc_language.specs.declared.expressions.SymbolType.TheVariants as symbol_type
use Rattle.kc_entries.specs.WellFormed.{IsLineText, IsWellFormed, OfTitles}
use Rattle.kc_input.specs.{HasNames.HasNames, PartsOfConfigFile.{between_quotes, line}}
use Rattle.kc_config_file.specs.PartsOfTexts.{config_heading, end_if, end_line, entries_text, gap, minimal_if, title_line}
use Rattle.kc_config_file.proofs.{FilledLemmas.{contains_here, contains_later}, MinimalTextLemmas.there, ValueTextLemmas.{fits_known, fits_parts}}
use Rattle.kc_input.proofs.{DefinedLemmas.{has_names, mentioned}, EscapeLemmas.escape_longer, LineLemmas.{HasNoLf, is_within-line, lines_from-last, lines_from-lf}, RoundTripLemmas.between_short, SymbolLineLemmas.{between_no_lf, full_no_lf, no_lf_check, short_prefix}}

abbrev Within : Line → Type 0
Within l = is_within l ≡ true

-- wherever it stands in a stream, the text's lines are short, and what stands behind it begins a line
record Part (stream text : List ℕ) (n : ℕ) (rest : List ℕ) : Type 0 where
  next : ℕ
  lines : List Line
  short : All Within lines
  is : lines_from stream n (text ++ rest) ≡ lines ++ lines_from stream next rest

module _ (stream : List ℕ) where
  abbrev Short : List ℕ → Type 0
  Short text = (n : ℕ) (rest : List ℕ) → Part stream text n rest

  short_nothing : Short []
  short_nothing n rest = record { next = n; lines = []; short = All-nil Within; is = refl }

  short_append : (a b : List ℕ) → Short a → Short b → Short (a ++ b)
  short_append a b first second n rest =
      let p = first n (b ++ rest) in
      let q = second p.next rest in
      record {
        next = q.next;
        lines = p.lines ++ q.lines;
        short = All-append Within p.lines q.lines p.short q.short;
        is = ap (lines_from stream n) (append_assoc a b rest) ∙ p.is ∙ ap (λ t. p.lines ++ t) q.is ∙ sym (append_assoc p.lines q.lines (lines_from stream q.next rest));
      }

  short_line : (body text : List ℕ) → text ≡ body ++ 10 ∷ [] → HasNoLf body → length body ≤ 65535 → Short text
  short_line body text is none few n rest = record {
    next = one_more n;
    lines = line stream n body true ∷ [];
    short = All-cons Within (line stream n body true) [] (is_within-line stream n body true few) (All-nil Within);
    is = ap (λ t. lines_from stream n (t ++ rest)) is ∙ ap (lines_from stream n) (append_assoc body (10 ∷ []) rest) ∙ lines_from-lf stream n body 10 rest none refl;
  }

  short_all : {X : Type 0} (text : X → List ℕ) (xs : List X) → ((x : X) → Contains xs x → Short (text x)) → Short (flat_map text xs)
  short_all text [] each = short_nothing
  short_all text (x ∷ xs) each = short_append (text x) (flat_map text xs) (each x (contains_here x xs)) (short_all text xs (λ y c. each y (contains_later x y xs c)))

  short_if : (b : Bool) (text : List ℕ) → Short text → Short (cond b text [])
  short_if true text short = short
  short_if false text short = short_nothing

  -- A symbol's line.
  module _ (is_raw : Bool) (name : List ℕ) (none : HasNoLf name) (few : length name ≤ 319) where
    behind : (words : List ℕ) → HasNoLf words → HasNoLf (name ++ words)
    behind words solid = All-append (λ b. is_line_feed b ≡ false) name words none solid

    number_short : (text : List ℕ) → HasNoLf text → length (escape text) ≤ 65000 → Short (name ++ codes "=" ++ text ++ codes "\n")
    number_short text solid fits =
        let front : List ℕ = name ++ codes "=" in
        let longer = escape_longer text in
        short_line (front ++ text) (name ++ codes "=" ++ text ++ codes "\n") refl (All-append (λ b. is_line_feed b ≡ false) front text (behind (codes "=") (no_lf_check (codes "=") refl)) solid)
        (omega (arith, few, fits, longer, length-append name (codes "="), length-append front text))

    known_short : (k : SymbolValue) → fits_known k ≡ true → Short (config_file_line is_raw name k)
    known_short (Truth N) e =
        let front : List ℕ = codes "# " ++ name in
        let body : List ℕ = front ++ codes " is not set" in
        let front_none : HasNoLf front = All-append (λ b. is_line_feed b ≡ false) (codes "# ") name (no_lf_check (codes "# ") refl) none in
        short_line body (config_file_line is_raw name (Truth N)) (sym (append_assoc front (codes " is not set") (10 ∷ [])))
        (All-append (λ b. is_line_feed b ≡ false) front (codes " is not set") front_none (no_lf_check (codes " is not set") refl))
        (omega (arith, few, length-append (codes "# ") name, length-append front (codes " is not set")))
    known_short (Truth M) e =
        short_line (name ++ codes "=m") (config_file_line is_raw name (Truth M)) (sym (append_assoc name (codes "=m") (10 ∷ [])))
        (behind (codes "=m") (no_lf_check (codes "=m") refl)) (omega (arith, few, length-append name (codes "=m")))
    known_short (Truth Y) e =
        short_line (name ++ codes "=y") (config_file_line is_raw name (Truth Y)) (sym (append_assoc name (codes "=y") (10 ∷ [])))
        (behind (codes "=y") (no_lf_check (codes "=y") refl)) (omega (arith, few, length-append name (codes "=y")))
    known_short (TextValue symbol_type.Undefined text) e = short_nothing
    known_short (TextValue symbol_type.Bool text) e = short_nothing
    known_short (TextValue symbol_type.Tristate text) e = short_nothing
    known_short (TextValue symbol_type.Str text) e =
        let (solid, fits) = fits_parts text e in
        let front : List ℕ = name ++ codes "=" in
        let inner : List ℕ = between_quotes is_raw text in
        let open_ : List ℕ = codes "\"" ++ inner in
        let quoted : List ℕ = open_ ++ codes "\"" in
        let open_none : HasNoLf open_ = All-cons (λ b. is_line_feed b ≡ false) 34 inner refl (between_no_lf is_raw text solid) in
        let quoted_none : HasNoLf quoted = All-append (λ b. is_line_feed b ≡ false) open_ (codes "\"") open_none (no_lf_check (codes "\"") refl) in
        short_line (front ++ quoted) (config_file_line is_raw name (TextValue symbol_type.Str text)) refl
        (All-append (λ b. is_line_feed b ≡ false) front quoted (behind (codes "=") (no_lf_check (codes "=") refl)) quoted_none)
        (omega (arith, few, fits, between_short is_raw text, length-append name (codes "="), length-append (codes "\"") inner, length-append open_ (codes "\""), length-append front quoted))
    known_short (TextValue symbol_type.Int text) e = number_short text (fits_parts text e).0 (fits_parts text e).1
    known_short (TextValue symbol_type.Hex text) e = number_short text (fits_parts text e).0 (fits_parts text e).1

  -- Titles.
  empty_short : Short (10 ∷ [])
  empty_short = short_line [] (10 ∷ []) refl (no_lf_check [] refl) (omega arith)

  hash_short : Short (35 ∷ 10 ∷ [])
  hash_short = short_line (35 ∷ []) (35 ∷ 10 ∷ []) refl (no_lf_check (35 ∷ []) refl) (omega arith)

  worded_short : (words text : List ℕ) → HasNoLf words → length words ≤ 1000 → IsLineText text → Short ((words ++ text) ++ 10 ∷ [])
  worded_short words text solid few line =
      let within = line.within in
      short_line (words ++ text) ((words ++ text) ++ 10 ∷ []) refl (All-append (λ b. is_line_feed b ≡ false) words text solid line.one_line) (omega (arith, few, within, length-append words text))

  title_short : (text : List ℕ) → IsLineText text → Short (title_line text ++ 10 ∷ [])
  title_short text line = worded_short (codes "# ") text (no_lf_check (codes "# ") refl) (omega arith) line

  title_lines_short : (text : List ℕ) → IsLineText text → Short (title_lines text)
  title_lines_short text line =
      let is : title_lines text ≡ 10 ∷ [] ++ (35 ∷ 10 ∷ [] ++ ((title_line text ++ 10 ∷ []) ++ (35 ∷ 10 ∷ []))) = simp append_assoc in
      subst Short (sym is)
      (short_append (10 ∷ []) (35 ∷ 10 ∷ [] ++ ((title_line text ++ 10 ∷ []) ++ (35 ∷ 10 ∷ []))) empty_short
      (short_append (35 ∷ 10 ∷ []) ((title_line text ++ 10 ∷ []) ++ (35 ∷ 10 ∷ [])) hash_short
      (short_append (title_line text ++ 10 ∷ []) (35 ∷ 10 ∷ []) (title_short text line) hash_short)))

  abbrev notice : List ℕ
  notice = codes "# Automatically generated file; DO NOT EDIT."

  notice_short : Short (notice ++ 10 ∷ [])
  notice_short = short_line notice (notice ++ 10 ∷ []) refl (no_lf_check notice refl) (omega arith)

  heading_short : (text : List ℕ) → IsLineText text → Short (config_heading text)
  heading_short text line =
      let is : config_heading text ≡ 35 ∷ 10 ∷ [] ++ ((notice ++ 10 ∷ []) ++ ((title_line text ++ 10 ∷ []) ++ (35 ∷ 10 ∷ []))) = simp append_assoc in
      subst Short (sym is)
      (short_append (35 ∷ 10 ∷ []) ((notice ++ 10 ∷ []) ++ ((title_line text ++ 10 ∷ []) ++ (35 ∷ 10 ∷ []))) hash_short
      (short_append (notice ++ 10 ∷ []) ((title_line text ++ 10 ∷ []) ++ (35 ∷ 10 ∷ [])) notice_short
      (short_append (title_line text ++ 10 ∷ []) (35 ∷ 10 ∷ []) (title_short text line) hash_short)))

  end_short : (text : List ℕ) → IsLineText text → Short (end_line text)
  end_short text line = worded_short (codes "# end of ") text (no_lf_check (codes "# end of ") refl) (omega arith) line

  gap_short : (after_end : Bool) → Short (gap after_end)
  gap_short true = empty_short
  gap_short false = short_nothing

  -- Entries.
  module _ (tree : TreeFacts) (prefix : Notation) (solution : SolutionView) (texts : OfTitles IsLineText tree) where
    end_if_short : (b : Bool) (text : List ℕ) → IsLineText text → Short (end_if (cond b (Some text) None))
    end_if_short true text line = end_short text line
    end_if_short false text line = short_nothing

    end_shown : (menu : ℕ) (o : Option Shown) → slice_get tree.entries menu ≡ o → Short (end_if (shown_title solution o))
    end_shown menu None at = short_nothing
    end_shown menu (Some (SymbolShown s)) at = short_nothing
    end_shown menu (Some (MenuShown text when)) at = end_if_short (is_shown (solution.truth when)) text (texts.entries menu (MenuShown text when) at)
    end_shown menu (Some (EndShown other)) at = short_nothing
    end_shown menu (Some (CommentShown text when)) at = short_nothing

    entry_short : (i : ℕ) (entry : Shown) (after_end : Bool) → slice_get tree.entries i ≡ Some entry →
        ((s : SymId) → entry ≡ SymbolShown s → Short (symbol_config tree prefix solution s)) → Short (entry_text tree prefix solution after_end entry)
    entry_short i (SymbolShown s) after_end at symbol = short_if (solution.written s) (gap after_end ++ symbol_config tree prefix solution s)
        (short_append (gap after_end) (symbol_config tree prefix solution s) (gap_short after_end) (symbol s refl))
    entry_short i (MenuShown text when) after_end at symbol = short_if (is_shown (solution.truth when)) (title_lines text) (title_lines_short text (texts.entries i (MenuShown text when) at))
    entry_short i (EndShown menu) after_end at symbol = end_shown menu (slice_get tree.entries menu) refl
    entry_short i (CommentShown text when) after_end at symbol = short_if (is_shown (solution.truth when)) (title_lines text) (title_lines_short text (texts.entries i (CommentShown text when) at))

    entries_short : (n : ℕ) (after_end : ℕ → Bool) (entries : List Shown) →
        ((entry : Shown) (ends : Bool) → Contains entries entry → Short (entry_text tree prefix solution ends entry)) →
        Short (flat_map (λ (i, entry). entry_text tree prefix solution (after_end i) entry) (enumerate_from n entries))
    entries_short n after_end [] each = short_nothing
    entries_short n after_end (entry ∷ entries) each =
        short_append (entry_text tree prefix solution (after_end n) entry)
        (flat_map (λ (i, e). entry_text tree prefix solution (after_end i) e) (enumerate_from (n + 1) entries))
        (each entry (after_end n) (contains_here entry entries))
        (entries_short (n + 1) after_end entries (λ e ends c. each e ends (contains_later entry e entries c)))

    config_short : ((i : ℕ) (s : SymId) → slice_get tree.entries i ≡ Some (SymbolShown s) → Short (symbol_config tree prefix solution s)) → Short (config_text tree prefix solution)
    unfolding config_text
    config_short symbol =
        short_append (config_heading tree.main_menu) (entries_text tree prefix solution tree.entries) (heading_short tree.main_menu texts.main_menu)
        (entries_short 0 (λ i. end_is_last tree solution (take i tree.entries)) tree.entries (λ entry ends (i, lt, is).
        let at : slice_get tree.entries i ≡ Some entry = slice_get-get_or tree.entries i entry lt ∙ ap Some is in
        entry_short i entry ends at (λ s e. symbol i s (at ∙ ap Some e))))

  -- the whole text
  short_whole : (text : List ℕ) → Short text → All Within (lines_from stream 1 text)
  short_whole text short =
      let p = short 1 [] in
      let last : lines_from stream p.next [] ≡ [] = lines_from-last stream p.next [] (no_lf_check [] refl) in
      let is : lines_from stream 1 text ≡ p.lines = ap (lines_from stream 1) (sym (append-nil text)) ∙ p.is ∙ ap (λ t. p.lines ++ t) last ∙ append-nil p.lines in
      subst (All Within) (sym is) p.short

module _ (tree : TreeFacts) (user : UserPlace → Option GivenValue) (V : ℕ → SymbolValue) (prefix : Notation) (is_pre : is_prefix prefix.prefix ≡ true)
    (formed : IsWellFormed tree) (fits : (i : ℕ) → i < name_count tree → fits_known (V i) ≡ true) where
  symbol_short : (stream : List ℕ) (s : SymId) → Contains tree.defined s → Short stream (symbol_config tree prefix (valuation_view tree user V) s)
  symbol_short stream s defined =
      let named : HasNames tree = has_names tree formed in
      let lt = mentioned tree formed s defined in
      let (f, at) = there tree.symbols s.0 lt in
      let few : length prefix.prefix ≤ 64 = short_prefix tree prefix stream is_pre formed named s f at defined in
      let known = named s defined in
      let value_is : known_from tree V s ≡ V s.0 = rw (lt-ltb s.0 (length tree.symbols) lt) refl in
      let most : length (prefix.prefix ++ name_of tree s) ≤ 319 = (let n = known.1 in omega (arith, n, few, length-append prefix.prefix (name_of tree s))) in
      subst (λ k. Short stream (config_file_line prefix.is_raw (prefix.prefix ++ name_of tree s) k)) (sym value_is)
      (known_short stream prefix.is_raw (prefix.prefix ++ name_of tree s) (full_no_lf tree prefix stream is_pre formed named s f at defined) most (V s.0) (fits s.0 lt))

  pub config_is_short : HasShortLines (config_text tree prefix (valuation_view tree user V))
  config_is_short name =
      short_whole name (config_text tree prefix (valuation_view tree user V))
      (config_short name tree prefix (valuation_view tree user V) formed.texts.titles (λ i s at. symbol_short name s (formed.entries_sound i (SymbolShown s) at)))

  pub minimal_is_short : HasShortLines (minimal_text tree prefix (valuation_view tree user V))
  unfolding minimal_text
  minimal_is_short name =
      short_whole name (flat_map (minimal_if tree prefix (valuation_view tree user V)) tree.defined)
      (short_all name (minimal_if tree prefix (valuation_view tree user V)) tree.defined
      (λ s c. short_if name ((valuation_view tree user V).differs s) (symbol_config tree prefix (valuation_view tree user V) s) (symbol_short name s c)))
