-- Examples for the chapter Needs: the tree of the examples for Values, which is accepted, and a tree with a dependency loop.
use Rattle.std.proofs.Common.{arith, refl, ◌≡◌}
use Rattle.std.specs.{List.{IsDistinct, list_any}, Prelude.{List, None, Option, Some, [], codes, filter, find, nat_eq, slice_index, suc, zero, ℕ, ◌&&◌, ◌+◌, ◌<◌, ◌∷◌}}
use Rattle.kc_language.specs.{Expressions.{Single, Symbol, symbol}, Needs.{IsLoopText, needs, needs_in, needs_of, unordered_after}, Statements.{ConfigLine, DependsLine, Located, Numbered, TypeLine}, Symbols.{TreeFacts, facts_with}, declared.expressions.SymbolType.TheVariants.Bool}
use Rattle.kc_language.proofs.ValuesExamples.{tree}

-- CRC needs FAST, which it depends on, and SMALL, which selects it.
needs_of_crc : needs_of tree 2 ≡ 1 ∷ 0 ∷ []
needs_of_crc = refl

-- A member needs what the prompts of all members of its choice name, so SMALL needs BUFFERS as FAST does.
needs_of_all : needs tree ≡ (4 ∷ []) ∷ (4 ∷ []) ∷ (1 ∷ 0 ∷ []) ∷ (0 ∷ []) ∷ [] ∷ []
needs_of_all = refl

-- The tree is accepted: after five steps no symbol is unordered.
accepted : filter (unordered_after (needs_in (needs tree)) 5) (0 ∷ 1 ∷ 2 ∷ 3 ∷ 4 ∷ []) ≡ []
accepted = refl

-- Two symbols that depend on each other.
--
--     config A
--         bool
--         depends on B
--     config B
--         bool
--         depends on A
abbrev at_line : ℕ → Numbered → Located Numbered
at_line n s = record { file = codes "Kconfig"; line = n; statement = s }

abbrev looped : TreeFacts
looped = facts_with (codes "A" ∷ codes "B" ∷ []) (
    at_line 1 (ConfigLine (symbol 0)) ∷ at_line 2 (TypeLine Bool None) ∷ at_line 3 (DependsLine (Single (Symbol (symbol 1)))) ∷
    at_line 4 (ConfigLine (symbol 1)) ∷ at_line 5 (TypeLine Bool None) ∷ at_line 6 (DependsLine (Single (Symbol (symbol 0)))) ∷ [])

-- Each needs the other, so neither is ever ordered, and the tree is refused with this loop.
needs_of_looped : needs looped ≡ (1 ∷ []) ∷ (0 ∷ []) ∷ []
needs_of_looped = refl

unordered : filter (unordered_after (needs_in (needs looped)) 2) (0 ∷ 1 ∷ []) ≡ 0 ∷ 1 ∷ []
unordered = refl

reported_loop : IsLoopText looped (codes "A -> B -> A")
unfolding IsDistinct
reported_loop = (
  0 ∷ 1 ∷ [],
  record {
    lead = [];
    some = omega arith;
    walk = record { begins = refl; goes_on = goes_on };
    apart = ((refl, tt), (tt, tt));
  },
  refl,
)
  where
    walk : List ℕ
    walk = 0 ∷ 1 ∷ 0 ∷ []

    next : ℕ → Option ℕ
    next s = find (λ u. unordered_after (needs_in (needs looped)) 2 u && list_any (nat_eq u) (needs_in (needs looped) s)) (0 ∷ 1 ∷ [])

    goes_on : (k : ℕ) → k + 1 < 3 → next (slice_index walk k) ≡ Some (slice_index walk (k + 1))
    goes_on zero h = refl
    goes_on (suc zero) h = refl
    goes_on (suc (suc k)) h = absurd (omega (arith, h))
