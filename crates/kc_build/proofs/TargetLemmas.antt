-- Each name that a line selects or implies is mentioned, and so has a number below that of all names.
use Rattle.std.proofs.{Common.{Bool, List, None, Option, Some, [], ap, arith, false, length, refl, suc, sym, true, zero, ℕ, ◌<◌, ◌||◌, ◌∙◌, ◌∷◌, ◌≡◌}, lemmas.{List.Folds.list_any-append, Option.slice_get_within}}
use Rattle.std.specs.{List.{flat_map, list_any, slice_get}, Prelude.option_map}
use Rattle.kc_expr.proofs.NamesLemmas.{same_name-refl}
use Rattle.kc_language.specs.{Expansion.{mentioned_names, numbered_lines}, Expressions.{number_of, same_name, symbol}, Statements.{ImplyLine, Located, Named, Numbered, SelectLine, names_in_statement, numbered, statements}, Symbols.target_of, declared.expressions.SymId.SymId}
use Rattle.kc_read.proofs.{NameLemmas.known_at, NumberingLemmas.{mentioned_known, numbered_at}}
use Rattle.kc_build.specs.SelectorRows.{AreTargetsBelow}
use Rattle.kc_build.proofs.SelectorLemmas.{Target}

-- A numbered line that selects or implies names a symbol that the line mentions.
record IsNamedBy (number : List ℕ → ℕ) (x : Named) (t : Target) : Type 0 where
  name : List ℕ
  is : t.1 ≡ symbol (number name)
  among : list_any (same_name name) (names_in_statement x) ≡ true

or-true : (a b : Bool) → a ≡ true → (a || b) ≡ true
or-true true b h = refl
or-true false b h = absurd cc

true-or : (a b : Bool) → b ≡ true → (a || b) ≡ true
true-or true b h = refl
true-or false b h = h

abbrev symbol_in : Option Target → SymId
symbol_in None = symbol 0
symbol_in (Some t) = t.1

named-by : (number : List ℕ → ℕ) (x : Named) (t : Target) → target_of (numbered number x) ≡ Some t → IsNamedBy number x t
named-by number (SelectLine n w) t h = record {
  name = n;
  is = ap symbol_in (sym h);
  among = or-true _ _ (same_name-refl n);
}
named-by number (ImplyLine n w) t h = record {
  name = n;
  is = ap symbol_in (sym h);
  among = or-true _ _ (same_name-refl n);
}
named-by number _ t h = absurd cc

-- what a line mentions all lines mention
among-all : (ss : List Named) (i : ℕ) (x : Named) (n : List ℕ) → slice_get ss i ≡ Some x → list_any (same_name n) (names_in_statement x) ≡ true →
    list_any (same_name n) (flat_map names_in_statement ss) ≡ true
among-all [] i x n h a = absurd cc
among-all (s ∷ ss) zero x n h a =
    let same : s ≡ x = cc in
    list_any-append (same_name n) (names_in_statement s) (flat_map names_in_statement ss) ∙ or-true _ _ (ap (λ y. list_any (same_name n) (names_in_statement y)) same ∙ a)
among-all (s ∷ ss) (suc i) x n h a =
    list_any-append (same_name n) (names_in_statement s) (flat_map names_in_statement ss) ∙ true-or (list_any (same_name n) (names_in_statement s)) _ (among-all ss i x n h a)

module _ (ls : List (Located Named)) where
  abbrev names : List (List ℕ)
  names = mentioned_names (statements ls)

  below-by : (i : ℕ) (l : Numbered) (t : Target) (o : Option Named) → slice_get (statements ls) i ≡ o → option_map (numbered (number_of names)) o ≡ Some l → target_of l ≡ Some t → t.1.0 < length names
  below-by i l t None at h says = absurd cc
  below-by i l t (Some x) at h says =
      let line : numbered (number_of names) x ≡ l = cc in
      let by = named-by (number_of names) x t (ap target_of line ∙ says) in
      let known = mentioned_known [] (flat_map names_in_statement (statements ls)) by.name (among-all (statements ls) i x by.name at by.among) in
      let within = slice_get_within names (number_of names by.name) by.name (known_at names by.name known) in
      let same : t.1.0 ≡ number_of names by.name = ap (λ s. s.0) by.is in
      omega (arith, within, same)

  pub targets-below : AreTargetsBelow (length names) (statements (numbered_lines ls))
  targets-below i l t at says = below-by i l t (slice_get (statements ls) i) refl (sym (numbered_at (number_of names) ls i) ∙ at) says
