-- The lines of a stream's bytes, one at a time.
use Rattle.std.proofs.{Common.{Bool, List, None, Option, Some, [], ap, append-nil, arith, cond, false, inl, inr, length, refl, sym, true, ℕ, ◌++◌, ◌∙◌, ◌∷◌, ◌≡◌, ◌≤◌}, lemmas.{Bool.{cases_Bool, false_from_ne_true, le-leb, true≢false}, List.{Folds.list_any_at, Splits.{slice_split-cons_no, slice_split-cons_yes, slice_split_at, slice_split_none}}}}
use Rattle.std.specs.{List.{All, cons_option, last_or, list_any, onto_first, slice_split}, Prelude.{if◌then◌else◌, not, option_map, ◌&&◌, ◌==◌}}
use Rattle.kc_language.specs.{ConfigFile.{Assigns, Effect, Line, Notation, Places, RefusedLine, Silent, StreamLocation, UserInput, Warns, each_from, effect, effect_of, gone_after, input_after, is_gone, is_on, is_reported, is_taken, is_within, line_meaning, lines_after, lines_from, meaning_of, not_allowed, places_given, refused_after, said_line, stream_location, untaken, untaken_line, warning}, Lines.is_line_feed, Symbols.TreeFacts, declared.expressions.SymId.SymId}
use Rattle.kc_input.specs.{LineSteps.{gone_by, input_by, input_with, refused_by}, PartsOfConfigFile.{assignment_of, effect_text, last_line, line, line_for, refused_for, refused_line, text_of}}
use Rattle.kc_input.proofs.{PlaceLemmas.{each_same, one_place, places_given-nothing}, StepEffects.{all_by, lines_by, places_by}}
use Rattle.kc_text.specs.PartsOfText.{one_more}

-- there is a first part
pub split_form : (bytes : List ℕ) → (part : List ℕ) × (parts : List (List ℕ)) × (slice_split is_line_feed bytes ≡ part ∷ parts)
split_form [] = ([], [], refl)
split_form (b ∷ bytes) = elim (cases_Bool (is_line_feed b)) [
  | inl e ↦ ([], slice_split is_line_feed bytes, slice_split-cons_yes is_line_feed b bytes e)
  | inr e ↦
      let (part, parts, is) = split_form bytes in
      (b ∷ part, parts, slice_split-cons_no is_line_feed b bytes e ∙ ap (onto_first b) is)
]

abbrev pub HasNoLf : List ℕ → Type 0
HasNoLf bytes = All (λ b. is_line_feed b ≡ false) bytes

pub no_line_feed : (text : List ℕ) → list_any is_line_feed text ≡ false → HasNoLf text
no_line_feed text none = λ k d lt. false_from_ne_true _ (λ e. true≢false (sym (list_any_at is_line_feed text k d lt e) ∙ none))

-- an LF ends the line, and the next line follows
pub lines_from-lf : (stream : List ℕ) (n : ℕ) (bytes : List ℕ) (b : ℕ) (rest : List ℕ) → HasNoLf bytes → is_line_feed b ≡ true →
    lines_from stream n (bytes ++ b ∷ rest) ≡ line stream n bytes true ∷ lines_from stream (one_more n) rest
unfolding lines_from
lines_from-lf stream n bytes b rest one ends =
    let (part, parts, is) = split_form rest in
    rw (slice_split_at is_line_feed bytes b rest one ends, is) refl

-- without one the bytes are the last line
pub lines_from-last : (stream : List ℕ) (n : ℕ) (bytes : List ℕ) → HasNoLf bytes → lines_from stream n bytes ≡ last_line stream n bytes
unfolding lines_from
lines_from-last stream n bytes one = rw (slice_split_none is_line_feed bytes one) refl

-- What one line does.
after_effect : (tree : TreeFacts) (places : Places) (e : Effect) → places_given tree places (cons_option (assignment_of e) []) ≡ places_by tree places e
after_effect tree places Silent = places_given-nothing tree places
after_effect tree places (Warns line_warning) = places_given-nothing tree places
after_effect tree places (Assigns s given) = refl

lines_by_effect : (at : StreamLocation) (lines : List (Option StreamLocation)) (e : Effect) →
    each_from (λ i last. last_or last (cons_option (line_for i at e) [])) 0 lines ≡ lines_by lines at e
lines_by_effect at lines Silent = each_same 0 lines
lines_by_effect at lines (Warns line_warning) = each_same 0 lines
lines_by_effect at lines (Assigns s given) = one_place s.0 0 s.0 at lines (omega arith)

-- whether a line of this effect leaves all lines taken
none_untaken : (l : Line) (b : Bool) → (length (cond b [] (l ∷ []) ++ []) == 0) ≡ b
none_untaken l true = refl
none_untaken l false = refl

is_and_true : (b : Bool) → (b && true) ≡ b
is_and_true true = refl
is_and_true false = refl

unless : (b r : Bool) → (b && not r) ≡ (if r then false else b)
unless true true = refl
unless true false = refl
unless false true = refl
unless false false = refl

all_by_effect : (input : UserInput) (e : Effect) → (input.all_taken && is_taken input.asks_unset input.places e) ≡ all_by input e
all_by_effect input Silent = is_and_true input.all_taken
all_by_effect input (Warns line_warning) = unless input.all_taken (is_reported input.asks_unset line_warning)
all_by_effect input (Assigns s given) = refl

by_parts : (tree : TreeFacts) (input : UserInput) (at : StreamLocation) (refused : List (Option RefusedLine)) (told : Option (List ℕ × List ℕ)) (e : Effect) →
    record { places = places_by tree input.places e; lines = lines_by input.lines at e; refused = refused; all_taken = all_by input e; gone = told; asks_unset = input.asks_unset; lead = input.lead }
    ≡ record (input_by tree input at e) { refused = refused; gone = told }
by_parts tree input at refused told Silent = refl
by_parts tree input at refused told (Warns line_warning) = refl
by_parts tree input at refused told (Assigns s given) = refl

-- one line whose value is not allowed
refused_by_one : (line : RefusedLine) (refused : List (Option RefusedLine)) (o : Option SymId) →
    each_from (λ i last. last_or last (cons_option (refused_for i line o) [])) 0 refused ≡ refused_by line o refused
refused_by_one line refused None = each_same 0 refused
refused_by_one line refused (Some s) = one_place s.0 0 s.0 line refused (omega arith)

pub refused_after-line : (tree : TreeFacts) (prefix : Notation) (old : List (Option RefusedLine)) (l : Line) →
    refused_after tree prefix old (l ∷ []) ≡ refused_by (refused_line tree prefix l) (not_allowed tree (effect tree prefix l)) old
unfolding refused_after
refused_after-line tree prefix old l = refused_by_one (refused_line tree prefix l) old (not_allowed tree (effect tree prefix l))

-- one gone line
one_gone : (text : List ℕ) (gone on : Bool) (old : Option (List ℕ × List ℕ)) →
    option_map (λ told. (told.0 ++ (cond (gone && on) text [] ++ []), told.1 ++ (cond (gone && not on) text [] ++ []))) old
    ≡ cond gone (option_map (λ told. cond on (told.0 ++ text, told.1) (told.0, told.1 ++ text)) old) old
one_gone text true on None = refl
one_gone text false on None = refl
one_gone text true true (Some told) = λ i. Some (told.0 ++ append-nil text i, append-nil told.1 i)
one_gone text true false (Some told) = λ i. Some (append-nil told.0 i, told.1 ++ append-nil text i)
one_gone text false on (Some told) = λ i. Some (append-nil told.0 i, append-nil told.1 i)

pub gone_after-line : (tree : TreeFacts) (prefix : Notation) (old : Option (List ℕ × List ℕ)) (l : Line) →
    gone_after tree prefix old (l ∷ []) ≡ gone_by prefix (line_meaning tree prefix l) (effect tree prefix l) old
unfolding gone_after
gone_after-line tree prefix old l = one_gone (said_line prefix.prefix (line_meaning tree prefix l)) (is_gone (effect tree prefix l)) (is_on (line_meaning tree prefix l)) old

pub input_after-parts : (tree : TreeFacts) (prefix : Notation) (input : UserInput) (l : Line) →
    input_after tree prefix input (l ∷ [])
    ≡ record (input_by tree input (stream_location l) (effect_of prefix.is_raw tree (meaning_of prefix.prefix (text_of l)))) {
      refused = refused_after tree prefix input.refused (l ∷ []);
      gone = gone_after tree prefix input.gone (l ∷ []);
    }
unfolding effect lines_after untaken_line untaken
input_after-parts tree prefix input l =
    let e = effect_of prefix.is_raw tree (meaning_of prefix.prefix (text_of l)) in
    let nothing : places_given tree input.places [] ≡ input.places = places_given-nothing tree input.places in
    let none : (length (cond (is_taken input.asks_unset (places_given tree input.places []) e) [] (l ∷ []) ++ []) == 0) ≡ is_taken input.asks_unset input.places e =
    none_untaken l (is_taken input.asks_unset (places_given tree input.places []) e) ∙ ap (λ (p : Places). is_taken input.asks_unset p e) nothing in
    let all : (input.all_taken && (length (cond (is_taken input.asks_unset (places_given tree input.places []) e) [] (l ∷ []) ++ []) == 0)) ≡ all_by input e =
    ap (λ b. input.all_taken && b) none ∙ all_by_effect input e in
    rw (after_effect tree input.places e, lines_by_effect (stream_location l) input.lines e, all)
    (by_parts tree input (stream_location l) (refused_after tree prefix input.refused (l ∷ [])) (gone_after tree prefix input.gone (l ∷ [])) e)

pub input_after-line : (tree : TreeFacts) (prefix : Notation) (input : UserInput) (l : Line) (text : List ℕ) → text ≡ text_of l →
    input_after tree prefix input (l ∷ []) ≡ input_with tree prefix input (stream_location l) (meaning_of prefix.prefix text)
unfolding effect
input_after-line tree prefix input l text is =
    rw is (input_after-parts tree prefix input l
    ∙ ap (λ (refused : List (Option RefusedLine)). record (input_by tree input (stream_location l) (effect_of prefix.is_raw tree (meaning_of prefix.prefix (text_of l)))) {
      refused = refused;
      gone = gone_after tree prefix input.gone (l ∷ []);
    }) (refused_after-line tree prefix input.refused l)
    ∙ ap (λ (gone : Option (List ℕ × List ℕ)). record (input_by tree input (stream_location l) (effect_of prefix.is_raw tree (meaning_of prefix.prefix (text_of l)))) {
      refused = refused_by (refused_line tree prefix l) (not_allowed tree (effect tree prefix l)) input.refused;
      gone = gone;
    }) (gone_after-line tree prefix input.gone l))

pub warning-line : (tree : TreeFacts) (prefix : Notation) (input : UserInput) (l : Line) (text : List ℕ) → text ≡ text_of l →
    warning tree prefix input l ≡ effect_text prefix.is_raw tree input (stream_location l) (effect_of prefix.is_raw tree (meaning_of prefix.prefix text))
unfolding warning effect
warning-line tree prefix input l text is = rw is refl

-- a line of at most 65,535 bytes is not too long
pub is_within-line : (stream : List ℕ) (n : ℕ) (bytes : List ℕ) (ended : Bool) → length bytes ≤ 65535 → is_within (line stream n bytes ended) ≡ true
is_within-line stream n bytes ended within = le-leb (length bytes) 65535 within
