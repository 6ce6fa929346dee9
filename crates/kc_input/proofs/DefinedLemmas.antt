-- The defined symbols of a well-formed tree: they are mentioned and have names, and only they have allowed values.
use Rattle.std.proofs.{Common.{None, Option, Some, [], ap, arith, get_or, length, refl, sym, true, ℕ, ◌<◌, ◌∙◌, ◌≡◌}, lemmas.{Bool.true≢false, Option.{get_or_from_slice_get, slice_get-get_or, slice_get_within}}}
use Rattle.std.specs.Prelude.{Contains, slice_get}
use Rattle.kc_language.specs.{Symbols.{SymbolFacts, TreeFacts}, Values.{GivenText, GivenTruth, GivenValue, Member, name as name_of}, declared.expressions.{SymId.SymId, SymbolType.SymbolType}}
use Rattle.kc_language.specs.declared.expressions.SymbolType.TheVariants as symbol_type
use Rattle.kc_entries.specs.WellFormed.{IsWellFormed}
use Rattle.kc_user.specs.Places.{allowed, allowed_by, allowed_for}
use Rattle.kc_input.specs.HasNames.{HasNames}

-- nothing is allowed for a symbol without a type
pub untyped_not : (kd : SymbolType) (g : GivenValue) → kd ≡ symbol_type.Undefined → allowed_by kd g ≡ true → ⊥
untyped_not kd g is ok = none g (sym (ap (λ k. allowed_by k g) is) ∙ ok)
  where
    none : (g : GivenValue) → allowed_by symbol_type.Undefined g ≡ true → ⊥
    none (GivenTruth t) e = true≢false (sym e)
    none (GivenText t) e = true≢false (sym e)
    none (Member m) e = true≢false (sym e)

-- a defined symbol is one that is mentioned
pub mentioned : (tree : TreeFacts) → IsWellFormed tree → (s : SymId) → Contains tree.defined s → s.0 < length tree.symbols
mentioned tree formed s (i, lt, is) =
    let there = formed.defined_there i s lt in
    let same : (get_or tree.defined i s).0 ≡ s.0 = ap (λ (t : SymId). t.0) is in
    omega (arith, there, same)

-- a symbol of which some value is allowed has a type, and so is defined
allowed_by_facts : (tree : TreeFacts) → IsWellFormed tree → (s : SymId) (g : GivenValue) (o : Option SymbolFacts) → slice_get tree.symbols s.0 ≡ o → allowed_for o g ≡ true → Contains tree.defined s
allowed_by_facts tree formed s g None at ok = absurd (true≢false (sym ok))
allowed_by_facts tree formed s g (Some f) at ok = formed.typed_defined s f at (λ untyped. untyped_not f.symbol_type g untyped ok)

pub allowed_defined : (tree : TreeFacts) → IsWellFormed tree → (s : SymId) (g : GivenValue) → allowed tree s g ≡ true → Contains tree.defined s
allowed_defined tree formed s g ok = allowed_by_facts tree formed s g (slice_get tree.symbols s.0) refl ok

-- a defined symbol has a name
pub defined_named : (tree : TreeFacts) → IsWellFormed tree → (i : ℕ) (s : SymId) → slice_get tree.defined i ≡ Some s → s.0 < length tree.names
defined_named tree formed i s at =
    let there = formed.defined_there i s (slice_get_within tree.defined i s at) in
    let same : (get_or tree.defined i s).0 ≡ s.0 = ap (λ (t : SymId). t.0) (get_or_from_slice_get tree.defined i s s at) in
    omega (arith, there, same, formed.symbols_named)

-- the names of a well-formed tree's defined symbols
pub has_names : (tree : TreeFacts) → IsWellFormed tree → HasNames tree
has_names tree formed s defined =
    let below = mentioned tree formed s defined in
    let name = formed.names_allowed s (name_of tree s) defined (slice_get-get_or tree.names s.0 [] (omega (arith, below, formed.symbols_named))) in
    (record { some = name.some; bytes = name.bytes }, name.short)
