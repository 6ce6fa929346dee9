-- The scope of a place.
use Rattle.std.proofs.{Common.{Bool, List, Some, [], ap, cond, false, filter, if◌then◌else◌, refl, true, ℕ, ◌++◌, ◌∙◌, ◌∷◌, ◌≡◌}, lemmas.{Grind.flat_map-append, List.{Elements.filter-append, append-nil}}}
use Rattle.std.specs.{List.flat_map, Prelude.option_map}
use Rattle.kc_language.specs.{Expansion.last_of, Expressions.Form, Statements.Numbered, Symbols.{block_conjuncts, choice_number, of_block, own_visible}}
use Rattle.kc_language.specs.declared.statements.Block.TheVariants as block
use Rattle.kc_read.specs.Scopes.{Scope, block_visible, scope_of_block}
use Rattle.kc_entries.proofs.EnclosingLemmas.{last-snoc}

module _ (ss : List Numbered) where
  abbrev pub scope_by : List ℕ → Scope
  scope_by indices = record {
    conjuncts = flat_map (block_conjuncts ss) indices;
    visible = flat_map (own_visible ss) (filter (of_block ss block.Menu) indices);
    mode = option_map (choice_number ss) (last_of (filter (of_block ss block.Choice) indices));
    opened_at = last_of indices;
  }

  conjuncts-snoc : (f : ℕ → List Form) (indices : List ℕ) (k : ℕ) → flat_map f (indices ++ k ∷ []) ≡ flat_map f indices ++ f k
  conjuncts-snoc f indices k = rw (flat_map-append f indices (k ∷ []), append-nil (f k)) refl

  kept : (b : Bool) (f : ℕ → List Form) (indices : List ℕ) (k : ℕ) → flat_map f (indices ++ cond b (k ∷ []) []) ≡ flat_map f indices ++ (if b then f k else [])
  kept true f indices k = conjuncts-snoc f indices k
  kept false f indices k = rw (append-nil indices, append-nil (flat_map f indices)) refl

  chosen : (b : Bool) (f : ℕ → ℕ) (indices : List ℕ) (k : ℕ) → option_map f (last_of (indices ++ cond b (k ∷ []) [])) ≡ (if b then Some (f k) else option_map f (last_of indices))
  chosen true f indices k = ap (option_map f) (last-snoc indices k)
  chosen false f indices k = rw (append-nil indices) refl

  pub scope_snoc : (indices : List ℕ) (k : ℕ) → scope_by (indices ++ k ∷ []) ≡ scope_of_block ss k (scope_by indices) (choice_number ss k)
  scope_snoc indices k =
      let p = conjuncts-snoc (block_conjuncts ss) indices k in
      let v : flat_map (own_visible ss) (filter (of_block ss block.Menu) (indices ++ k ∷ [])) ≡
      flat_map (own_visible ss) (filter (of_block ss block.Menu) indices) ++ block_visible ss k =
      ap (flat_map (own_visible ss)) (filter-append (of_block ss block.Menu) indices (k ∷ []))
      ∙ kept (of_block ss block.Menu k) (own_visible ss) (filter (of_block ss block.Menu) indices) k in
      let m = ap (λ l. option_map (choice_number ss) (last_of l)) (filter-append (of_block ss block.Choice) indices (k ∷ []))
      ∙ chosen (of_block ss block.Choice k) (choice_number ss) (filter (of_block ss block.Choice) indices) k in
      λ i. record { conjuncts = p i; visible = v i; mode = m i; opened_at = last-snoc indices k i }
