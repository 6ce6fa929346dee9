-- The value of an expression whose symbols are known, or all but one.
use Rattle.std.proofs.{Common.{Bool, List, None, Option, Some, ap, false, if◌then◌else◌, inl, inr, refl, sym, true, ℕ, ◌∙◌, ◌≡◌}, lemmas.List.Elements.All-weaker}
use Rattle.std.specs.Prelude.{◌⊎◌}
use Rattle.kc_expr.proofs.AgreeLemmas.{depends_on_symbols}
use Rattle.kc_expr.specs.Value.{value_by_type, values_by}
use Rattle.kc_language.specs.{Expressions.{Form, SymbolValue, Truth, same_symbol, symbols, truth_of_value, value}, Values.{facts, name, type_in}, declared.expressions.{SymId.SymId, SymbolType.{SymbolType, TheVariants.{Bool as IsBool, Hex, Int, Str, Tristate, Undefined}}, Tri.Tri}}
use Rattle.kc_values.proofs.Same.{same_symbol-true, same_symbol_itself}
use Rattle.kc_possible.specs.{Possible.{Allows, IsTyped}, Sides.{DependsOnlyOn, IsFixed, IsSettled, assumed_tri, is_truth, lowest, single, untyped}, declared.possible.Possible.Possible}

-- a value of a bool or tristate is the one with its truth value; of a symbol without a type there is one
value_typed : (k : SymbolType) (called : List ℕ) (v : SymbolValue) (t : Tri) → is_truth k ≡ true → IsTyped k called v → truth_of_value v ≡ t → v ≡ value_by_type k t called
value_typed IsBool called v t truth typed e = typed.1 ∙ ap Truth (sym (ap truth_of_value typed.1) ∙ e)
value_typed Tristate called v t truth typed e = typed.1 ∙ ap Truth (sym (ap truth_of_value typed.1) ∙ e)
value_typed Undefined called v t truth typed e = absurd cc
value_typed Str called v t truth typed e = absurd cc
value_typed Int called v t truth typed e = absurd cc
value_typed Hex called v t truth typed e = absurd cc

value_named : (k : SymbolType) (called : List ℕ) (v : SymbolValue) (t : Tri) → k ≡ Undefined → IsTyped k called v → v ≡ value_by_type k t called
value_named Undefined called v t e typed = typed
value_named IsBool called v t e typed = absurd cc
value_named Tristate called v t e typed = absurd cc
value_named Str called v t e typed = absurd cc
value_named Int called v t e typed = absurd cc
value_named Hex called v t e typed = absurd cc

picked : (b c : Bool) (t low : Tri) → b ≡ c → (if b then t else low) ≡ (if c then t else low)
picked b c t low e = ap (λ x. if x then t else low) e

module _ (p : Possible) where
  -- the values where one symbol is assumed to have a value
  abbrev pub assumed_value : Option (SymId × Tri) → SymId → SymbolValue
  assumed_value a = values_by (λ s. type_in (facts p.laid.tree.now s)) (λ s. assumed_tri p a s) (λ s. name p.laid.tree.now s)

  module _ (known : SymId → SymbolValue) (allowed : Allows p known) where
    fixed_value : (a : Option (SymId × Tri)) (s : SymId) → IsFixed p s → (truth_of_value (known s) ≡ lowest p s → truth_of_value (known s) ≡ assumed_tri p a s) → known s ≡ assumed_value a s
    fixed_value a s (untyped e) right = value_named (type_in (facts p.laid.tree.now s)) (name p.laid.tree.now s) (known s) (assumed_tri p a s) e (allowed.typed s)
    fixed_value a s (single truth same) right = value_typed (type_in (facts p.laid.tree.now s)) (name p.laid.tree.now s) (known s) (assumed_tri p a s) truth (allowed.typed s) (right (same known allowed))

    pub settled_value : (f : Form) → IsSettled p f → value (assumed_value None) p.laid.tree.now.modules f ≡ value known p.laid.tree.now.modules f
    settled_value f all = sym (depends_on_symbols known (assumed_value None) p.laid.tree.now.modules f
        (All-weaker (IsFixed p) (λ s. known s ≡ assumed_value None s) (λ s fixed. fixed_value None s fixed (λ e. e)) (symbols p.laid.tree.now.modules f) all))

    assumed_here : (id s : SymId) (t : Tri) → s ≡ id → truth_of_value (known id) ≡ t → truth_of_value (known s) ≡ assumed_tri p (Some (id, t)) s
    assumed_here id s t e h = ap (λ x. truth_of_value (known x)) e ∙ h ∙ sym (picked (same_symbol id s) true t (lowest p s) (ap (same_symbol id) e ∙ same_symbol_itself id))

    by_test : (id s : SymId) (t : Tri) (b : Bool) → same_symbol id s ≡ b → truth_of_value (known id) ≡ t → truth_of_value (known s) ≡ lowest p s → truth_of_value (known s) ≡ (if b then t else lowest p s)
    by_test id s t true e h low = ap (λ x. truth_of_value (known x)) (sym (same_symbol-true id s e)) ∙ h
    by_test id s t false e h low = low

    assumed_there : (id s : SymId) (t : Tri) → truth_of_value (known id) ≡ t → truth_of_value (known s) ≡ lowest p s → truth_of_value (known s) ≡ assumed_tri p (Some (id, t)) s
    assumed_there id s t h low = by_test id s t (same_symbol id s) refl h low

    alike : (id s : SymId) (t : Tri) → is_truth (type_in (facts p.laid.tree.now id)) ≡ true → truth_of_value (known id) ≡ t → (s ≡ id) ⊎ IsFixed p s → known s ≡ assumed_value (Some (id, t)) s
    alike id s t truth h (inl e) = value_typed (type_in (facts p.laid.tree.now s)) (name p.laid.tree.now s) (known s) (assumed_tri p (Some (id, t)) s)
        (ap (λ x. is_truth (type_in (facts p.laid.tree.now x))) e ∙ truth) (allowed.typed s) (assumed_here id s t e h)
    alike id s t truth h (inr fixed) = fixed_value (Some (id, t)) s fixed (assumed_there id s t h)

    pub open_value : (f : Form) (id : SymId) (t : Tri) → DependsOnlyOn p id f → truth_of_value (known id) ≡ t → value (assumed_value (Some (id, t))) p.laid.tree.now.modules f ≡ value known p.laid.tree.now.modules f
    open_value f id t only h = sym (depends_on_symbols known (assumed_value (Some (id, t))) p.laid.tree.now.modules f
        (All-weaker (λ s. (s ≡ id) ⊎ IsFixed p s) (λ s. known s ≡ assumed_value (Some (id, t)) s) (λ s named. alike id s t only.0 h named) (symbols p.laid.tree.now.modules f) only.1))
