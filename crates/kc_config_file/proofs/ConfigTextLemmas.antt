-- What the lines of the .config give.
use Rattle.std.proofs.{Common.{Bool, List, None, Option, Some, [], ap, append_assoc, arith, codes, cond, false, length, refl, subst, sym, take, true, ℕ, ◌++◌, ◌+◌, ◌∙◌, ◌∷◌, ◌≡◌, ◌≤◌}, lemmas.{List.{Elements.All-append, length-append}, Option.slice_get-get_or}}
use Rattle.std.specs.{List.{Contains, enumerate_from, flat_map}, Prelude.slice_get, Str.Lines.strip_carriage_return}
use Rattle.kc_language.specs.{ConfigFile.{Assignment, Notation, effect_of, is_prefix, meaning_of}, Lines.is_line_feed, Symbols.{CommentShown, EndShown, MenuShown, Shown, SymbolShown, TreeFacts}, Texts.{HasPlainTitles, IsNotUnsetLine, SolutionView, config_text, end_is_last, entry_text, is_shown, shown_title, symbol_config, title_lines}, declared.expressions.SymId.SymId}
use Rattle.kc_entries.specs.WellFormed.{IsLineText, OfTitles}
use Rattle.kc_input.specs.PartsOfConfigFile.{assignment_of}
use Rattle.kc_config_file.specs.PartsOfTexts.{config_heading, end_if, end_line, entries_text, gap, title_if, title_line}
use Rattle.kc_config_file.proofs.{CommentLemmas.{end_unsets_nothing, silent, silent_plain, unset_not_last}, FilledLemmas.{contains_here, contains_later}}
use Rattle.kc_input.proofs.{GivesLemmas.{Gives, gives_append, gives_line, gives_nothing}, LineLemmas.HasNoLf, SymbolLineLemmas.no_lf_check}

module _ (tree : TreeFacts) (prefix : Notation) (stream : List ℕ) (is_pre : is_prefix prefix.prefix ≡ true) where
  quiet : (body : List ℕ) → HasNoLf body → length body ≤ 65535 → assignment_of (effect_of prefix.is_raw tree (meaning_of prefix.prefix (strip_carriage_return body))) ≡ None → Gives tree prefix stream (body ++ 10 ∷ []) []
  quiet body none short is = gives_line tree prefix stream body None none short is

  empty_line : Gives tree prefix stream (10 ∷ []) []
  empty_line = quiet [] (no_lf_check [] refl) (omega arith) refl

  hash_line : Gives tree prefix stream (35 ∷ 10 ∷ []) []
  hash_line = quiet (35 ∷ []) (no_lf_check (35 ∷ []) refl) (omega arith) refl

  -- the line of a title
  title_quiet : (text : List ℕ) → IsLineText text → IsNotUnsetLine prefix.prefix (title_line text) → Gives tree prefix stream (title_line text ++ 10 ∷ []) []
  title_quiet text line plain =
      let within = line.within in
      quiet (title_line text) (All-append (λ b. is_line_feed b ≡ false) (codes "# ") text (no_lf_check (codes "# ") refl) line.one_line)
      (omega (arith, within, length-append (codes "# ") text)) (silent_plain prefix.is_raw tree prefix.prefix (32 ∷ text) plain)

  end_quiet : (text : List ℕ) → IsLineText text → Gives tree prefix stream (end_line text) []
  end_quiet text line =
      let within = line.within in
      let body : List ℕ = codes "# end of " ++ text in
      quiet body (All-append (λ b. is_line_feed b ≡ false) (codes "# end of ") text (no_lf_check (codes "# end of ") refl) line.one_line)
      (omega (arith, within, length-append (codes "# end of ") text))
      (silent prefix.is_raw tree prefix.prefix (codes " end of " ++ text) (λ name e. end_unsets_nothing prefix.prefix text name is_pre e))

  -- two texts without assignments
  both : (a b : List ℕ) → Gives tree prefix stream a [] → Gives tree prefix stream b [] → Gives tree prefix stream (a ++ b) []
  both a b first second = gives_append tree prefix stream a b [] [] first second

  title_quiet_lines : (text : List ℕ) → IsLineText text → IsNotUnsetLine prefix.prefix (title_line text) → Gives tree prefix stream (title_lines text) []
  title_quiet_lines text line plain =
      let is : title_lines text ≡ 10 ∷ [] ++ (35 ∷ 10 ∷ [] ++ ((title_line text ++ 10 ∷ []) ++ (35 ∷ 10 ∷ []))) = simp append_assoc in
      subst (λ t. Gives tree prefix stream t []) (sym is)
      (both (10 ∷ []) (35 ∷ 10 ∷ [] ++ ((title_line text ++ 10 ∷ []) ++ (35 ∷ 10 ∷ []))) empty_line
      (both (35 ∷ 10 ∷ []) ((title_line text ++ 10 ∷ []) ++ (35 ∷ 10 ∷ [])) hash_line
      (both (title_line text ++ 10 ∷ []) (35 ∷ 10 ∷ []) (title_quiet text line plain) hash_line)))

  abbrev notice : List ℕ
  notice = codes "# Automatically generated file; DO NOT EDIT."

  notice_line : Gives tree prefix stream (notice ++ 10 ∷ []) []
  notice_line =
      quiet notice (no_lf_check notice refl) (omega arith)
      (silent prefix.is_raw tree prefix.prefix (codes " Automatically generated file; DO NOT EDIT.") (λ name e. unset_not_last prefix.prefix (codes "# Automatically generated file; DO NOT EDIT") 46 name refl e))

  heading_quiet : (text : List ℕ) → IsLineText text → IsNotUnsetLine prefix.prefix (title_line text) → Gives tree prefix stream (config_heading text) []
  heading_quiet text line plain =
      let is : config_heading text ≡ 35 ∷ 10 ∷ [] ++ ((notice ++ 10 ∷ []) ++ ((title_line text ++ 10 ∷ []) ++ (35 ∷ 10 ∷ []))) = simp append_assoc in
      subst (λ t. Gives tree prefix stream t []) (sym is)
      (both (35 ∷ 10 ∷ []) ((notice ++ 10 ∷ []) ++ ((title_line text ++ 10 ∷ []) ++ (35 ∷ 10 ∷ []))) hash_line
      (both (notice ++ 10 ∷ []) ((title_line text ++ 10 ∷ []) ++ (35 ∷ 10 ∷ [])) notice_line
      (both (title_line text ++ 10 ∷ []) (35 ∷ 10 ∷ []) (title_quiet text line plain) hash_line)))

  -- Entries.
  title_if_quiet : (shown : Bool) (text : List ℕ) → IsLineText text → (shown ≡ true → IsNotUnsetLine prefix.prefix (title_line text)) → Gives tree prefix stream (title_if shown text) []
  title_if_quiet true text line plain = title_quiet_lines text line (plain refl)
  title_if_quiet false text line plain = gives_nothing tree prefix stream

  gap_quiet : (after_end : Bool) → Gives tree prefix stream (gap after_end) []
  gap_quiet true = empty_line
  gap_quiet false = gives_nothing tree prefix stream

  module _ (solution : SolutionView) (given : SymId → List Assignment) (texts : OfTitles IsLineText tree) (plain : HasPlainTitles tree prefix.prefix solution) where
    abbrev pub entry_given : Shown → List Assignment
    entry_given (SymbolShown s) = cond (solution.written s) (given s) []
    entry_given (MenuShown text when) = []
    entry_given (EndShown menu) = []
    entry_given (CommentShown text when) = []

    shown_quiet : (b : Bool) (text : List ℕ) → IsLineText text → Gives tree prefix stream (end_if (cond b (Some text) None)) []
    shown_quiet true text line = end_quiet text line
    shown_quiet false text line = gives_nothing tree prefix stream

    end_shown : (menu : ℕ) (o : Option Shown) → slice_get tree.entries menu ≡ o → Gives tree prefix stream (end_if (shown_title solution o)) []
    end_shown menu None at = gives_nothing tree prefix stream
    end_shown menu (Some (SymbolShown s)) at = gives_nothing tree prefix stream
    end_shown menu (Some (MenuShown text when)) at = shown_quiet (is_shown (solution.truth when)) text (texts.entries menu (MenuShown text when) at)
    end_shown menu (Some (EndShown other)) at = gives_nothing tree prefix stream
    end_shown menu (Some (CommentShown text when)) at = gives_nothing tree prefix stream

    symbol_shown : (b after_end : Bool) (s : SymId) → (b ≡ true → Gives tree prefix stream (symbol_config tree prefix solution s) (given s)) →
        Gives tree prefix stream (cond b (gap after_end ++ symbol_config tree prefix solution s) []) (cond b (given s) [])
    symbol_shown true after_end s line = gives_append tree prefix stream (gap after_end) (symbol_config tree prefix solution s) [] (given s) (gap_quiet after_end) (line refl)
    symbol_shown false after_end s line = gives_nothing tree prefix stream

    entry_gives : (i : ℕ) (entry : Shown) (after_end : Bool) → slice_get tree.entries i ≡ Some entry →
        ((s : SymId) → entry ≡ SymbolShown s → solution.written s ≡ true → Gives tree prefix stream (symbol_config tree prefix solution s) (given s)) →
        Gives tree prefix stream (entry_text tree prefix solution after_end entry) (entry_given entry)
    entry_gives i (SymbolShown s) after_end at line = symbol_shown (solution.written s) after_end s (line s refl)
    entry_gives i (MenuShown text when) after_end at line = title_if_quiet (is_shown (solution.truth when)) text (texts.entries i (MenuShown text when) at) (plain.entries i (MenuShown text when) at)
    entry_gives i (EndShown menu) after_end at line = end_shown menu (slice_get tree.entries menu) refl
    entry_gives i (CommentShown text when) after_end at line =
        title_if_quiet (is_shown (solution.truth when)) text (texts.entries i (CommentShown text when) at) (plain.entries i (CommentShown text when) at)

    entries_give : (n : ℕ) (after_end : ℕ → Bool) (entries : List Shown) →
        ((entry : Shown) (ends : Bool) → Contains entries entry → Gives tree prefix stream (entry_text tree prefix solution ends entry) (entry_given entry)) →
        Gives tree prefix stream (flat_map (λ (i, entry). entry_text tree prefix solution (after_end i) entry) (enumerate_from n entries)) (flat_map entry_given entries)
    entries_give n after_end [] each = gives_nothing tree prefix stream
    entries_give n after_end (entry ∷ entries) each =
        gives_append tree prefix stream (entry_text tree prefix solution (after_end n) entry)
        (flat_map (λ (i, e). entry_text tree prefix solution (after_end i) e) (enumerate_from (n + 1) entries)) (entry_given entry) (flat_map entry_given entries)
        (each entry (after_end n) (contains_here entry entries))
        (entries_give (n + 1) after_end entries (λ e ends c. each e ends (contains_later entry e entries c)))

    index_of : (entry : Shown) → Contains tree.entries entry → (i : ℕ) × (slice_get tree.entries i ≡ Some entry)
    index_of entry (i, lt, is) = (i, slice_get-get_or tree.entries i entry lt ∙ ap Some is)

    -- the whole text
    pub config_gives : ((s : SymId) → Contains tree.entries (SymbolShown s) → solution.written s ≡ true → Gives tree prefix stream (symbol_config tree prefix solution s) (given s)) →
        Gives tree prefix stream (config_text tree prefix solution) (flat_map entry_given tree.entries)
    unfolding config_text
    config_gives lines =
        gives_append tree prefix stream (config_heading tree.main_menu) (entries_text tree prefix solution tree.entries) [] (flat_map entry_given tree.entries)
        (heading_quiet tree.main_menu texts.main_menu plain.main_menu)
        (entries_give 0 (λ i. end_is_last tree solution (take i tree.entries)) tree.entries (λ entry ends c.
        let (i, at) = index_of entry c in
        entry_gives i entry ends at (λ s is. lines s (subst (Contains tree.entries) is c))))
