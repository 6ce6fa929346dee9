-- The entries of a tree name what there is, but for the ends of menus.
use Rattle.std.proofs.Common.{Bool, List, None, Option, Some, ap, false, if◌then◌else◌, length, refl, subst, true, ℕ, ◌<◌, ◌≡◌}
use Rattle.std.specs.{List.{Contains, slice_get}, Prelude.option_map}
use Rattle.kc_language.specs.{Statements.{CommentLine, ConfigLine, EndMenuLine, Located, MenuLine, Numbered}, Symbols.{CommentShown, Condition, EndShown, MenuShown, Shown, SymbolShown, TreeFacts, dependency, indices, is_first_definition, shown_at, symbol_at}, declared.expressions.SymId.SymId}
use Rattle.kc_entries.specs.{PartsOfSymbols.{enclosing_block, shown_number, shown_when, symbol_of}, WellFormed.{IsEntrySound, IsModeBelow}}
use Rattle.kc_entries.proofs.{ElementLemmas.filter_map-from, SymbolListLemmas.line_defined}
use Rattle.kc_read.proofs.FormedLemmas.{line_statements, sound_at, tree}

module _ (names : List (List ℕ)) (ls : List (Located Numbered)) where
  abbrev pub statements : List Numbered
  statements = line_statements names ls

  abbrev pub whole : TreeFacts
  whole = tree names ls

  abbrev IsSoundShown : Shown → Type 0
  IsSoundShown (SymbolShown s) = Contains whole.defined s
  IsSoundShown (MenuShown text when) = IsModeBelow (length whole.choices) when
  IsSoundShown (EndShown menu) = Unit {0}
  IsSoundShown (CommentShown text when) = IsModeBelow (length whole.choices) when

  -- the menu that an end names stands before it
  abbrev pub IsMenuBefore : ℕ → ℕ → Type 0
  IsMenuBefore i menu = (menu < i) × ((text : List ℕ) × (when : Condition) × (slice_get whole.entries menu ≡ Some (MenuShown text when)))

  symbol_sound : (p : ℕ) (s : SymId) (e : Shown) (b : Bool) → symbol_at statements p ≡ Some s → (if b then Some (SymbolShown s) else None) ≡ Some e → IsSoundShown e
  symbol_sound p s e false at h = absurd cc
  symbol_sound p s e true at h =
      let same : SymbolShown s ≡ e = cc in
      subst IsSoundShown same (line_defined statements p s at)

  end_sound : (o : Option ℕ) (e : Shown) → option_map (λ j. EndShown (shown_number statements j)) o ≡ Some e → IsSoundShown e
  end_sound None e h = absurd cc
  end_sound (Some j) e h = let same : EndShown (shown_number statements j) ≡ e = cc in subst IsSoundShown same tt

  shown_sound : (p : ℕ) (o : Option Numbered) (e : Shown) → slice_get statements p ≡ o → shown_at statements p o ≡ Some e → IsSoundShown e
  shown_sound p (Some (ConfigLine s)) e at h = symbol_sound p s e (is_first_definition statements p s) (ap symbol_of at) h
  shown_sound p (Some (MenuLine t)) e at h =
      let same : MenuShown t (shown_when statements p) ≡ e = cc in
      subst IsSoundShown same (sound_at statements p (shown_when statements p) refl)
  shown_sound p (Some EndMenuLine) e at h = end_sound (enclosing_block statements p) e h
  shown_sound p (Some (CommentLine t)) e at h =
      let same : CommentShown t (dependency statements p) ≡ e = cc in
      subst IsSoundShown same (sound_at statements p (dependency statements p) refl)
  shown_sound p _ e at h = absurd cc

  all_shown : (i : ℕ) (e : Shown) → slice_get whole.entries i ≡ Some e → IsSoundShown e
  all_shown i e h =
      let p = filter_map-from (λ i. shown_at statements i (slice_get statements i)) e (indices statements) i h in
      shown_sound p.0 (slice_get statements p.0) e refl p.1

  pub entries_sound : ((i menu : ℕ) → slice_get whole.entries i ≡ Some (EndShown menu) → IsMenuBefore i menu) → (i : ℕ) (e : Shown) → slice_get whole.entries i ≡ Some e → IsEntrySound whole i e
  entries_sound ends i (SymbolShown s) h = all_shown i (SymbolShown s) h
  entries_sound ends i (MenuShown text when) h = all_shown i (MenuShown text when) h
  entries_sound ends i (EndShown menu) h = ends i menu h
  entries_sound ends i (CommentShown text when) h = all_shown i (CommentShown text when) h
