-- The value of an expression depends on its symbols alone.
use Rattle.std.proofs.Common.{◌≡◌, refl, ap, ◌∙◌}
use Rattle.std.specs.List.{AllByRecursion}
use Rattle.std.specs.Prelude.{List, None, Option, Some, if◌then◌else◌, ◌∷◌, true, false}
use Rattle.kc_language.specs.{Expressions.{Every, Form, Forms, Leaf, LoneM, MoreForms, Negated, NoForms, Related, Single, Some_of, Symbol, SymbolValue, Text, TextValue, Truth, all_symbols, compared, greatest, holds, is_string, leaf_symbols, least, lesser, number, number_of_value, opposite, symbols, text, tri_text, truth_of_value, value, values}, Symbols.{listed}, Values.{single_text}, declared.expressions.{SymId.{SymId}, SymbolType.TheVariants.{Str}, Tri.{Tri, TheVariants.{M, N, Y}}}}
use Rattle.kc_outcome.proofs.FactLists.{back, front}

module _ (v k : SymId → SymbolValue) where
  abbrev Same : List SymId → Type 0
  Same = AllByRecursion (λ t. v t ≡ k t)

  numbers_same : (a : Leaf) → Same (leaf_symbols a) → number v a ≡ number k a
  numbers_same (Text t) h = refl
  numbers_same (Symbol s) h = ap number_of_value h.0

  pub texts_same : (a : Leaf) → Same (leaf_symbols a) → text v a ≡ text k a
  texts_same (Text t) h = refl
  texts_same (Symbol s) h = ap (λ x. elim x [ Truth t ↦ tri_text t | TextValue type bytes ↦ bytes ]) h.0

  strings_same : (a : Leaf) → Same (leaf_symbols a) → is_string v a ≡ is_string k a
  strings_same (Text t) h = refl
  strings_same (Symbol s) h = ap (λ x. elim x [ Truth t ↦ false | TextValue type bytes ↦ elim type [ Str ↦ true | _ ↦ false ] ]) h.0

  compared_same : (a b : Leaf) → Same (leaf_symbols a) → Same (leaf_symbols b) → compared v a b ≡ compared k a b
  compared_same a b h g =
      let na = numbers_same a h in let nb = numbers_same b g in let ta = texts_same a h in let tb = texts_same b g in
      let sa = strings_same a h in let sb = strings_same b g in
      cc

  module _ (modules : Option SymId) where
    abbrev lone : (SymId → SymbolValue) → Option SymId → Tri
    lone u o = elim o [ None ↦ N | Some s ↦ lesser M (truth_of_value (u s)) ]

    lone_same : (o : Option SymId) → Same (listed o) → lone v o ≡ lone k o
    lone_same None h = refl
    lone_same (Some s) h = ap (λ x. lesser M (truth_of_value x)) h.0

    mutual
      pub value_same : (e : Form) → Same (symbols modules e) → value v modules e ≡ value k modules e
      value_same (Single (Text t)) h = refl
      value_same (Single (Symbol s)) h = ap truth_of_value h.0
      value_same (Related op a b) h = ap (λ o. if holds op o then Y else N)
          (compared_same a b (front (λ t. v t ≡ k t) (leaf_symbols a) (leaf_symbols b) h) (back (λ t. v t ≡ k t) (leaf_symbols a) (leaf_symbols b) h))
      value_same (Negated f) h = ap opposite (value_same f h)
      value_same LoneM h = lone_same modules h
      value_same (Every fs) h = ap least (values_same fs h)
      value_same (Some_of fs) h = ap greatest (values_same fs h)

      values_same : (fs : Forms) → Same (all_symbols modules fs) → values v modules fs ≡ values k modules fs
      values_same NoForms h = refl
      values_same (MoreForms f fs) h =
          ap (λ t. t ∷ values v modules fs) (value_same f (front (λ t. v t ≡ k t) (symbols modules f) (all_symbols modules fs) h))
          ∙ ap (λ ts. value k modules f ∷ ts) (values_same fs (back (λ t. v t ≡ k t) (symbols modules f) (all_symbols modules fs) h))

pub single_same : (v k : SymId → SymbolValue) (modules : Option SymId) (e : Form) → AllByRecursion (λ t. v t ≡ k t) (symbols modules e) → single_text v e ≡ single_text k e
single_same v k modules (Single a) h = texts_same v k a h
single_same v k modules (Related op a b) h = refl
single_same v k modules (Negated f) h = refl
single_same v k modules LoneM h = refl
single_same v k modules (Every fs) h = refl
single_same v k modules (Some_of fs) h = refl
