-- The derivation of the text of an expression has no more parentheses and no more levels than any other that means the expression.
use Rattle.std.proofs.Common.{◌≡◌, refl, ap, subst, sym, arith}
use Rattle.std.specs.Prelude.{Bool, List, Some, [], false, if◌then◌else◌, suc, true, unwrap_or, ℕ, ◌≤◌}
use Rattle.kc_language.specs.{Expressions.{Atom, Chain, Disjunction, Every, Form, Leaf, LoneM, Negation, Part, Single, Some_of, WordAtom, bang, compare, conjunction, forms, group, joined, levels, levels_not, levels_part, lone, meaning, meaning_not, meaning_part, negation, only, parts}, ExpressionTexts.{groups, groups_not, groups_part}, declared.expressions.Connective.{Connective, TheVariants.{And, Or}}}
use Rattle.kc_language.proofs.ExpressionTexts.{chain_of, part_in, then_more, tree_of, trees_of}

module _ (condition : Bool) (names : List (List ℕ)) (number : List ℕ → ℕ) where
  -- An expression that stands alone needs no more than one that is a part, and this no more than one after `!`, which needs at most one pair more.
  abbrev NotBelow : Negation → Negation → Type 0
  NotBelow m n = (groups_not m ≤ groups_not n) × (levels_not m ≤ levels_not n)

  abbrev PartBelow : {c d : Connective} → Part c → Part d → Type 0
  PartBelow p q = (groups_part p ≤ groups_part q) × (levels_part p ≤ levels_part q)

  abbrev Below : {c d : Connective} → Chain c → Chain d → Type 0
  Below p q = (groups p ≤ groups q) × (levels p ≤ levels q)

  whole_below_part : (f : Form) → (groups (trees_of names f).as_whole ≤ groups_part (trees_of names f).as_part)
      × (levels (trees_of names f).as_whole ≤ levels_part (trees_of names f).as_part)
  whole_below_part (Some_of fs) = (omega arith, omega arith)
  whole_below_part _ = (omega arith, omega arith)

  part_below_not : (f : Form) → (groups_part (trees_of names f).as_part ≤ groups_not (trees_of names f).as_not)
      × (levels_part (trees_of names f).as_part ≤ levels_not (trees_of names f).as_not)
  part_below_not (Every fs) = (omega arith, omega arith)
  part_below_not _ = (omega arith, omega arith)

  not_below_group : (f : Form) → (groups_not (trees_of names f).as_not ≤ suc (groups (trees_of names f).as_whole))
      × (levels_not (trees_of names f).as_not ≤ suc (levels (trees_of names f).as_whole))
  not_below_group (Every fs) = (omega arith, omega arith)
  not_below_group _ = (omega arith, omega arith)

  lone_below : (b : Bool) (l : Leaf) (a : Atom) → NotBelow (trees_of names (if b then LoneM else Single l)).as_not (lone a)
  lone_below true l a = (omega arith, omega arith)
  lone_below false l a = (omega arith, omega arith)

  -- A chain of the parts that a chain means.
  record ChainBelow (c : Connective) (ps : Chain c) : Type 0 where
    chain : Chain c
    is : chain_of names c (forms (parts condition number ps)) ≡ Some chain
    below : Below chain ps

  joined_below : (c : Connective) (p : Part c) (ps : Chain c) → PartBelow (part_in c (trees_of names (meaning_part condition number p))) p → ChainBelow c ps →
      ChainBelow c (joined p ps)
  joined_below c p ps h more =
      let first = part_in c (trees_of names (meaning_part condition number p)) in
      let here = h in let rest = more.below in
      record {
        chain = joined first more.chain;
        is = ap (λ o. Some (then_more first o)) more.is;
        below = (omega (arith, here.0, rest.0), omega (arith, here.1, rest.1));
      }

  chain_is : (c : Connective) (ps : Chain c) (other : Chain c) (h : ChainBelow c ps) → Below (unwrap_or (chain_of names c (forms (parts condition number ps))) other) ps
  chain_is c ps other h = subst (λ o. Below (unwrap_or o other) ps) (sym h.is) h.below

  mutual
    not_least : (n : Negation) → NotBelow (trees_of names (meaning_not condition number n)).as_not n
    not_least (bang n) = let h = not_least n in (omega (arith, h.0), omega (arith, h.1))
    not_least (group d) = let h = whole_least d in let k = not_below_group (meaning condition number d) in (omega (arith, h.0, k.0), omega (arith, h.1, k.1))
    not_least (lone a) = lone_below _ _ a
    not_least (compare o a b) = (omega arith, omega arith)

    part_least : (c : Connective) (p : Part c) → PartBelow (part_in c (trees_of names (meaning_part condition number p))) p
    part_least And (negation n) = not_least n
    part_least Or (conjunction ps) = and_least ps

    and_least : (ps : Chain And) → (groups_part (trees_of names (meaning condition number ps)).as_part ≤ groups ps)
        × (levels_part (trees_of names (meaning condition number ps)).as_part ≤ levels ps)
    and_least (only (negation n)) = let h = not_least n in let k = part_below_not (meaning_not condition number n) in (omega (arith, h.0, k.0), omega (arith, h.1, k.1))
    and_least (joined p ps) = chain_is And (joined p ps) (only (negation (lone (WordAtom [])))) (joined_below And p ps (part_least And p) (chain_least And ps))

    whole_least : (d : Disjunction) → Below (trees_of names (meaning condition number d)).as_whole d
    whole_least (only (conjunction ps)) = let h = and_least ps in let k = whole_below_part (meaning condition number ps) in (omega (arith, h.0, k.0), omega (arith, h.1, k.1))
    whole_least (joined p ps) = chain_is Or (joined p ps) (only (conjunction (only (negation (lone (WordAtom [])))))) (joined_below Or p ps (part_least Or p) (chain_least Or ps))

    chain_least : (c : Connective) (ps : Chain c) → ChainBelow c ps
    chain_least c (only p) = record { chain = only (part_in c (trees_of names (meaning_part condition number p))); is = refl; below = part_least c p }
    chain_least c (joined p ps) = joined_below c p ps (part_least c p) (chain_least c ps)

  pub fewest : (f : Form) (other : Disjunction) → meaning condition number other ≡ f →
      (groups (tree_of names f) ≤ groups other) × (levels (tree_of names f) ≤ levels other)
  fewest f other e = subst (λ f. Below (tree_of names f) other) e (whole_least other)
