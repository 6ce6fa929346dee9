-- The names in the lines of a definition, where its ranges count and where they do not.
use Rattle.std.proofs.Common.{Bool, List, None, Option, Some, [], ap, arith, false, is_some, refl, subst, sym, true, ℕ, ◌&&◌, ◌++◌, ◌||◌, ◌∙◌, ◌∷◌, ◌≡◌}
use Rattle.std.specs.List.{flat_map}
use Rattle.kc_language.specs.{Expressions.Form, Statements.Numbered, Symbols.{Bounds, StatedDefault, range_in, stated_default}, declared.expressions.{SymId.SymId, SymbolType.SymbolType}}
use Rattle.kc_entries.specs.declared.entries.AttributeLine.{AttributeLine}
use Rattle.kc_tree.specs.{EntryViews.statements_of, Layouts.{own_at, place_of, prompt_in, said_at}, Places.says, declared.{layout.Layout.Layout, rows.EntryPlace.EntryPlace}}
use Rattle.kc_values.specs.{MadeRows.Adds, NeedRows.{asking, definition, is_number, is_read, is_truth, line_names, named, names_of_line, nothing}, declared.needs.NeedRow.NeedRow}
use Rattle.kc_values.proofs.{PlacesThere.{default_marked, range_marked}, RowSteps.{adds_both, adds_nothing}}

module _ (m : Option SymId) where
  -- only of a range does it matter
  line_same : (b n : Bool) (d : Option StatedDefault) (r : Option (Bounds × Option Form)) → (is_some r ≡ true → b ≡ n) → names_of_line m b d r ≡ names_of_line m n d r
  line_same b n (Some d) r h = refl
  line_same b n None None h = refl
  line_same b n None (Some r) h = ap (λ x. names_of_line m x None (Some r)) (h refl)

  pub lines_same : (b n : Bool) (own : List Numbered) → (says range_in own ≡ true → b ≡ n) → flat_map (line_names m b) own ≡ flat_map (line_names m n) own
  lines_same b n [] h = refl
  lines_same b n (x ∷ own) h = λ j.
      line_same b n (stated_default x) (range_in x) (λ t. h (first (is_some (range_in x)) (says range_in own) t)) j ++ lines_same b n own (λ t. h (later (is_some (range_in x)) (says range_in own) t)) j
    where
      first : (a b : Bool) → a ≡ true → (a || b) ≡ true
      first a b t = grind arith

      later : (a b : Bool) → b ≡ true → (a || b) ≡ true
      later a b t = grind arith

  -- without a default, and without a range that counts, nothing is named
  line_silent : (n : Bool) (d : Option StatedDefault) (r : Option (Bounds × Option Form)) → is_some d ≡ false → (is_some r && n) ≡ false → names_of_line m n d r ≡ []
  line_silent n (Some d) r e f = absurd cc
  line_silent n None None e f = refl
  line_silent n None (Some r) e f = ap (λ x. names_of_line m x None (Some r)) f

  pub lines_silent : (n : Bool) (own : List Numbered) → says stated_default own ≡ false → (says range_in own && n) ≡ false → flat_map (line_names m n) own ≡ []
  lines_silent n [] e f = refl
  lines_silent n (x ∷ own) e f = λ j.
      line_silent n (stated_default x) (range_in x) (none (is_some (stated_default x)) (says stated_default own) e) (quiet (is_some (range_in x)) (says range_in own) n f) j
      ++ lines_silent n own (rest (is_some (stated_default x)) (says stated_default own) e) (still (is_some (range_in x)) (says range_in own) n f) j
    where
      none : (a b : Bool) → (a || b) ≡ false → a ≡ false
      none a b t = grind arith

      rest : (a b : Bool) → (a || b) ≡ false → b ≡ false
      rest a b t = grind arith

      quiet : (a b n : Bool) → ((a || b) && n) ≡ false → (a && n) ≡ false
      quiet a b n t = grind arith

      still : (a b n : Bool) → ((a || b) && n) ≡ false → (b && n) ≡ false
      still a b n t = grind arith

-- What a definition adds to a row, by the marks of its place.
module _ (l : Layout) (t : SymbolType) (at : ℕ) (p : EntryPlace) (has_range stated : Bool) (here : p ≡ place_of l at) (ranges : has_range ≡ (p.has_range && is_number t))
    (counts : stated ≡ (p.has_default || has_range)) where
  range_is : has_range ≡ (says range_in (said_at l at) && is_number t)
  range_is = ranges ∙ ap (λ (q : EntryPlace). q.has_range && is_number t) here ∙ ap (λ b. b && is_number t) (range_marked l at)

  stated_is : stated ≡ (says stated_default (said_at l at) || (says range_in (said_at l at) && is_number t))
  stated_is =
      counts ∙ ap (λ b. p.has_default || b) range_is
      ∙ ap (λ b. b || (says range_in (said_at l at) && is_number t)) (ap (λ (q : EntryPlace). q.has_default) here ∙ default_marked l at)

  asking_is : asking l (is_truth t || stated) p (prompt_in l p) ≡ asking l (is_read l t (said_at l at)) (place_of l at) (prompt_in l (place_of l at))
  asking_is = ap (λ b. asking l (is_truth t || b) p (prompt_in l p)) stated_is ∙ ap (λ q. asking l (is_read l t (said_at l at)) q (prompt_in l q)) here

  added : (a b c : NeedRow) → Adds a b (asking l (is_truth t || stated) p (prompt_in l p)) → Adds b c (named (flat_map (line_names l.modules (is_number t)) (said_at l at))) →
      Adds a c (definition l t at)
  added a b c x y =
      adds_both a b c (asking l (is_read l t (said_at l at)) (place_of l at) (prompt_in l (place_of l at))) (named (flat_map (line_names l.modules (is_number t)) (said_at l at)))
      (subst (Adds a b) asking_is x) y

  pub added_stated : (a b c : NeedRow) (attributes : List AttributeLine) → attributes ≡ own_at l at → Adds a b (asking l (is_truth t || stated) p (prompt_in l p)) →
      Adds b c (named (flat_map (line_names l.modules has_range) (statements_of attributes))) → Adds a c (definition l t at)
  added_stated a b c attributes e x y =
      let same : flat_map (line_names l.modules has_range) (statements_of attributes) ≡ flat_map (line_names l.modules (is_number t)) (said_at l at) =
      ap (λ ls. flat_map (line_names l.modules has_range) (statements_of ls)) e
      ∙ lines_same l.modules has_range (is_number t) (said_at l at) (λ r. range_is ∙ ap (λ b. b && is_number t) r) in
      added a b c x (subst (λ ss. Adds b c (named ss)) same y)

  pub added_silent : (a b : NeedRow) → stated ≡ false → Adds a b (asking l (is_truth t || stated) p (prompt_in l p)) → Adds a b (definition l t at)
  added_silent a b e x =
      let no = sym stated_is ∙ e in
      let none : named (flat_map (line_names l.modules (is_number t)) (said_at l at)) ≡ nothing =
      ap named (lines_silent l.modules (is_number t) (said_at l at) (first (says stated_default (said_at l at)) (says range_in (said_at l at) && is_number t) no)
      (later (says stated_default (said_at l at)) (says range_in (said_at l at) && is_number t) no)) in
      added a b b x (subst (Adds b b) (sym none) (adds_nothing b))
    where
      first : (a b : Bool) → (a || b) ≡ false → a ≡ false
      first a b t = grind arith

      later : (a b : Bool) → (a || b) ≡ false → b ≡ false
      later a b t = grind arith
