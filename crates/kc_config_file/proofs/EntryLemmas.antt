-- The texts of the entries, one after another.
use Rattle.std.proofs.{Common.{Bool, List, None, Option, Some, [], ap, cond, false, refl, sym, true, ◌++◌, ◌∙◌, ◌∷◌, ◌≡◌}, lemmas.List.Elements.filter-append}
use Rattle.std.specs.{List.{filter, last_or}, Option.option_map_or, Prelude.slice_get}
use Rattle.kc_language.specs.{ConfigFile.Notation, Expressions.SymbolValue, Symbols.{CommentShown, Condition, EndShown, MenuShown, Shown, SymbolShown, TreeFacts}, Texts.{SolutionView, config_text, end_is_last, entry_text, has_lines, shown_title}, declared.expressions.{SymId.SymId, Tri.Tri}}
use Rattle.kc_config_file.specs.{EntryTexts.{ends_after, entries_after}, PartsOfTexts.{config_heading, entries_text, is_end}}
use Rattle.kc_input.proofs.{InTurnLemmas.{each_after, each_after-cons}, PlaceLemmas.last_or-append}

module _ (tree : TreeFacts) (prefix : Notation) (solution : SolutionView) where
  -- one entry more: it is the last with lines, or has none
  end_is_last-append : (before : List Shown) (entry : Shown) → end_is_last tree solution (before ++ entry ∷ []) ≡ ends_after tree solution (end_is_last tree solution before) entry
  end_is_last-append before entry =
      ap (λ (es : List Shown). option_map_or is_end (last_or None es) false) (filter-append (has_lines tree solution) before (entry ∷ []))
      ∙ ap (λ (o : Option Shown). option_map_or is_end o false) (last_or-append None (filter (has_lines tree solution) before) (filter (has_lines tree solution) (entry ∷ [])))
      ∙ by (has_lines tree solution entry)
    where
      by : (b : Bool) → option_map_or is_end (last_or (last_or None (filter (has_lines tree solution) before)) (cond b (entry ∷ []) [])) false
          ≡ cond b (is_end entry) (end_is_last tree solution before)
      by true = refl
      by false = refl

  texts_after : (before entries : List Shown) →
      each_after (λ earlier entry. entry_text tree prefix solution (end_is_last tree solution earlier) entry) before entries
      ≡ entries_after tree prefix solution (end_is_last tree solution before) entries
  texts_after before [] = refl
  texts_after before (entry ∷ entries) =
      let here = entry_text tree prefix solution (end_is_last tree solution before) entry in
      each_after-cons (λ earlier e. entry_text tree prefix solution (end_is_last tree solution earlier) e) before entry entries
      ∙ ap (λ t. here ++ t) (texts_after (before ++ entry ∷ []) entries)
      ∙ ap (λ (b : Bool). here ++ entries_after tree prefix solution b entries) (end_is_last-append before entry)

  -- each after those before it, or one after another
  pub entries_text-after : (entries : List Shown) → entries_text tree prefix solution entries ≡ entries_after tree prefix solution false entries
  entries_text-after entries = texts_after [] entries

-- The .config does not ask which symbols differ or are new.
module _ (tree : TreeFacts) (prefix : Notation) (value : SymId → SymbolValue) (written : SymId → Bool) (differs other : (SymId → Bool) × (SymId → Bool)) (truth : Condition → Tri) where
  abbrev view : (SymId → Bool) × (SymId → Bool) → SolutionView
  view d = record { value = value; written = written; differs = d.0; is_new = d.1; truth = truth }

  title_same : (o : Option Shown) → shown_title (view differs) o ≡ shown_title (view other) o
  title_same None = refl
  title_same (Some (SymbolShown s)) = refl
  title_same (Some (MenuShown text when)) = refl
  title_same (Some (EndShown menu)) = refl
  title_same (Some (CommentShown text when)) = refl

  entries_same : (after_end : Bool) (entries : List Shown) → entries_after tree prefix (view differs) after_end entries ≡ entries_after tree prefix (view other) after_end entries
  entries_same after_end [] = refl
  entries_same after_end (SymbolShown s ∷ entries) =
      ap (λ t. entry_text tree prefix (view other) after_end (SymbolShown s) ++ t) (entries_same (ends_after tree (view other) after_end (SymbolShown s)) entries)
  entries_same after_end (MenuShown text when ∷ entries) =
      ap (λ t. entry_text tree prefix (view other) after_end (MenuShown text when) ++ t) (entries_same (ends_after tree (view other) after_end (MenuShown text when)) entries)
  entries_same after_end (EndShown menu ∷ entries) =
      let title : shown_title (view differs) (slice_get tree.entries menu) ≡ shown_title (view other) (slice_get tree.entries menu) = title_same (slice_get tree.entries menu) in
      rw title (ap (λ t. entry_text tree prefix (view other) after_end (EndShown menu) ++ t) (entries_same (ends_after tree (view other) after_end (EndShown menu)) entries))
  entries_same after_end (CommentShown text when ∷ entries) =
      ap (λ t. entry_text tree prefix (view other) after_end (CommentShown text when) ++ t) (entries_same (ends_after tree (view other) after_end (CommentShown text when)) entries)

  pub config_text-same : config_text tree prefix (view differs) ≡ config_text tree prefix (view other)
  unfolding config_text
  config_text-same =
      ap (λ t. config_heading tree.main_menu ++ t)
      (entries_text-after tree prefix (view differs) tree.entries ∙ entries_same false tree.entries ∙ sym (entries_text-after tree prefix (view other) tree.entries))
