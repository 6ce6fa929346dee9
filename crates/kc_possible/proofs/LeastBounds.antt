-- Walks along attributes that keep bounds of the least of what was asked for.
use Rattle.std.proofs.Common.{List, None, Option, Some, ap, get_or, length, subst, sym, ℕ, ◌+◌, ◌<◌, ◌∙◌, ◌≡◌, ◌≤◌}
use Rattle.std.specs.List.{filter_map}
use Rattle.kc_language.specs.{Expressions.{Form, SymbolValue, lesser, value}, Statements.Numbered, Values.and_value, declared.expressions.{SymId.SymId, Tri.Tri}}
use Rattle.kc_entries.specs.{StatementViews.attribute_view, declared.entries.AttributeLine.AttributeLine}
use Rattle.kc_tree.specs.EntryViews.{statements_of}
use Rattle.kc_values.proofs.{SaidFrom.{said-end, said-next, said_from}, TriLemmas.{lesser_assoc, lesser_y}}
use Rattle.kc_possible.specs.{Bounds.IsWithin, PartsOfPossible.Covers, Possible.Allows, declared.{bounds.Bounds.Bounds, possible.Possible.Possible}}

module _ (p : Possible) (read : Numbered → Option Form) (ls : List AttributeLine) where
  abbrev asked : (SymId → SymbolValue) → ℕ → Tri
  asked known i = and_value p.laid.tree.now known (said_from read ls i)

  -- something between the bounds is, with what is asked for from a line on, what all lines ask for
  pub record IsLeastAt (least : Bounds) (i : ℕ) (known : SymId → SymbolValue) : Type 0 where
    pub before : Tri
    pub within : IsWithin least before
    pub whole : lesser before (asked known i) ≡ asked known 0

  abbrev pub IsLeast : Bounds → ℕ → Type 0
  IsLeast least i = (known : SymId → SymbolValue) → Allows p known → IsLeastAt least i known

  -- the bounds of two
  abbrev pub IsLesser : Bounds → Bounds → Bounds → Type 0
  IsLesser next least own = (t u : Tri) → IsWithin least t → IsWithin own u → IsWithin next (lesser t u)

  pub bounds-asked : (i : ℕ) (x : AttributeLine) (f : Form) (least next own : Bounds) → i < length ls → x ≡ get_or ls i x → Some f ≡ read (attribute_view x.attribute) →
      IsLesser next least own → Covers p own (λ known. value known p.laid.tree.now.modules f) → IsLeast least i → IsLeast next (i + 1)
  bounds-asked i x f least next own h at e both covers so known ok =
      let s = so known ok in
      let v = value known p.laid.tree.now.modules f in
      record {
        before = lesser s.before v;
        within = both s.before v s.within (covers known ok);
        whole =
            lesser_assoc s.before v (asked known (i + 1))
            ∙ sym (ap (λ r. lesser s.before (and_value p.laid.tree.now known r)) (said-next read ls i x (Some f) h at (sym e)))
            ∙ s.whole;
      }

  pub bounds-quiet : (i : ℕ) (x : AttributeLine) (least next : Bounds) → i < length ls → x ≡ get_or ls i x → None ≡ read (attribute_view x.attribute) → next ≡ least → IsLeast least i → IsLeast next (i + 1)
  bounds-quiet i x least next h at e is so known ok =
      let s = so known ok in
      record {
        before = s.before;
        within = subst (λ b. IsWithin b s.before) (sym is) s.within;
        whole = sym (ap (λ r. lesser s.before (and_value p.laid.tree.now known r)) (said-next read ls i x None h at (sym e))) ∙ s.whole;
      }

  pub bounds-end : (i : ℕ) (least : Bounds) → length ls ≤ i → IsLeast least i → Covers p least (λ known. and_value p.laid.tree.now known (filter_map read (statements_of ls)))
  bounds-end i least h so known ok =
      let s = so known ok in
      let is = sym (ap (λ r. lesser s.before (and_value p.laid.tree.now known r)) (said-end read ls i h) ∙ lesser_y s.before) ∙ s.whole in
      subst (IsWithin least) is s.within
