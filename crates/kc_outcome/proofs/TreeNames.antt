-- The tree of a root file: its names are distinct.
use Rattle.std.proofs.Common.{◌≡◌, refl, ap, sym, ◌∙◌, inl, inr, true, false, true≢false, ◌<◌, arith}
use Rattle.std.proofs.lemmas.Bool.{cases_lt}
use Rattle.std.proofs.lemmas.Cmp.{nat_list_eq_equiv}
use Rattle.std.proofs.lemmas.Map.Keys.{IsDistinct-push, apart_from_distinct}
use Rattle.std.proofs.lemmas.Slice.Eq.{bytes_eq-Decides}
use Rattle.std.specs.List.{IsDistinct, flat_map, list_any}
use Rattle.std.specs.Prelude.{Bool, Err, List, Ok, Result, [], if◌then◌else◌, length, slice_index_or, ◌++◌, ◌∷◌, ◌≡◌, ℕ}
use Rattle.kc_language.specs.{Expansion.{ReadSoFar, Refused, mentioned_names, numbered_lines}, Expressions.{all_mentioned, mention, same_name}, Statements.{Located, Numbered, names_in_statement, statements}, Symbols.{TreeFacts, facts_with, tree_with}, Values.{name}}

no_names : IsDistinct same_name []
unfolding IsDistinct
no_names = tt

mentioned-distinct : (names : List (List ℕ)) (name : List ℕ) → IsDistinct same_name names → IsDistinct same_name (mention names name)
mentioned-distinct names name distinct = by (list_any (same_name name) names) refl
  where
    by : (known : Bool) → list_any (same_name name) names ≡ known → IsDistinct same_name (if known then names else names ++ name ∷ [])
    by true is = distinct
    by false is = IsDistinct-push nat_list_eq_equiv names name distinct is

all_mentioned-distinct : (names words : List (List ℕ)) → IsDistinct same_name names → IsDistinct same_name (all_mentioned names words)
all_mentioned-distinct names [] distinct = distinct
all_mentioned-distinct names (word ∷ words) distinct = all_mentioned-distinct (mention names word) words (mentioned-distinct names word distinct)

pub apart_names : (names : List (List ℕ)) → IsDistinct same_name names → (i j : ℕ) → i < length names → j < length names →
    slice_index_or names i [] ≡ slice_index_or names j [] → i ≡ j
apart_names names distinct i j h g e = elim (cases_lt i j) [
  | inl less ↦ absurd (true≢false (sym ((bytes_eq-Decides _ _).1 e) ∙ apart_from_distinct same_name names i j [] distinct less g))
  | inr more ↦ elim (cases_lt j i) [
    | inl less ↦ absurd (true≢false (sym ((bytes_eq-Decides _ _).1 (sym e)) ∙ apart_from_distinct same_name names j i [] distinct less h))
    | inr also ↦ omega (arith, more, also)
  ]
]

-- ---- Such a tree is that of some lines
pub record TreeOf (tree : TreeFacts) : Type 0 where
  pub names : List (List ℕ)
  pub lines : List (Located Numbered)
  pub distinct : IsDistinct same_name names
  pub is : tree ≡ facts_with names lines

abbrev result_of : Result ReadSoFar Refused → Result TreeFacts Refused
result_of e = elim e [ Ok log ↦ tree_with (mentioned_names (statements log.lines)) (numbered_lines log.lines) | Err refusal ↦ Err refusal ]

pub built_from : (tree : TreeFacts) (e : Result ReadSoFar Refused) → Ok tree ≡ result_of e → TreeOf tree
built_from tree (Err refusal) e = absurd cc
built_from tree (Ok log) e = by _ e
  where
    names : List (List ℕ)
    names = mentioned_names (statements log.lines)

    lines : List (Located Numbered)
    lines = numbered_lines log.lines

    first_of : List Refused → Result TreeFacts Refused
    first_of refusals = elim refusals [ [] ↦ Ok (facts_with names lines) | r ∷ rs ↦ Err r ]

    by : (refusals : List Refused) → Ok tree ≡ first_of refusals → TreeOf tree
    by [] e = record {
      names = names;
      lines = lines;
      distinct = all_mentioned-distinct [] (flat_map names_in_statement (statements log.lines)) no_names;
      is = ap (λ r. elim r [ Ok t ↦ t | Err why ↦ tree ]) e;
    }
    by (r ∷ rs) e = absurd cc
