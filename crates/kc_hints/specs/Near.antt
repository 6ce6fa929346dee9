-- Trusted: Names that are similar to a name that no symbol has (our own).
use Rattle.std.specs.{List.{list_all, slice_split}, Prelude.{Bool, List, None, Option, Some, [], codes, count_by, false, if◌then◌else◌, length, not, suc, take, zero, ℕ, ◌&&◌, ◌++◌, ◌+◌, ◌==◌, ◌||◌, ◌∷◌}}
use Rattle.kc_language.specs.{ConfigFile.{without_prefix}, Expressions.{same_name, symbol}, Symbols.{TreeFacts, same_type}, Text.{byte}, Values.{facts, type_in}, declared.expressions.{SymId.{SymId}, SymbolType.TheVariants.{Undefined}}}
use Rattle.kc_outcome.specs.Explanations.{differs_by_one}

-- Two neighbouring letters are swapped.
abbrev pub are_first_exchanged : List ℕ → List ℕ → Bool
are_first_exchanged (a ∷ b ∷ xs) (c ∷ d ∷ ys) = a == d && (b == c && same_name xs ys)
are_first_exchanged _ _ = false

abbrev pub are_exchanged : List ℕ → List ℕ → Bool
are_exchanged [] name = false
are_exchanged (a ∷ xs) [] = false
are_exchanged (a ∷ xs) (b ∷ ys) = if a == b then are_exchanged xs ys else are_first_exchanged (a ∷ xs) (b ∷ ys)

-- The parts between `_` are the same, in any order: each of them occurs equally often in both names.
abbrev pub parts : List ℕ → List (List ℕ)
parts name = slice_split (λ b. b == byte "_") name

abbrev pub count_of : List ℕ → List (List ℕ) → ℕ
count_of part among = count_by (same_name part) among

abbrev pub are_same_parts : List (List ℕ) → List (List ℕ) → Bool
are_same_parts one other = length one == length other && list_all (λ part. count_of part one == count_of part other) one

abbrev pub is_moved : List ℕ → List ℕ → Bool
is_moved asked name = length asked == length name && are_same_parts (parts asked) (parts name)

-- A name is similar to another one: one letter differs, or two neighbouring letters are swapped, or the parts are in another order.
abbrev pub is_near : List ℕ → List ℕ → Bool
is_near asked name = differs_by_one asked name || (are_exchanged asked name || is_moved asked name)

-- ---- The names in a hint
-- Without `told`, only names of symbols with a type. With it, only names that do not differ by one letter from this name: those are reported already.
abbrev pub is_typed : TreeFacts → SymId → Bool
is_typed tree s = not (same_type (type_in (facts tree s)) Undefined)

abbrev pub may_give : TreeFacts → Option (List ℕ) → SymId → List ℕ → Bool
may_give tree None s name = is_typed tree s
may_give tree (Some told) s name = not (differs_by_one told name)

-- The similar names among names of the tree that may be given, in order; the first one has number i. At most the first three are given.
abbrev pub near_from : TreeFacts → Option (List ℕ) → List ℕ → ℕ → List (List ℕ) → List (List ℕ)
near_from tree told asked i [] = []
near_from tree told asked i (name ∷ names) =
    if may_give tree told (symbol i) name && is_near asked name then name ∷ near_from tree told asked (i + 1) names else near_from tree told asked (i + 1) names

abbrev pub most_names : ℕ
most_names = 3

abbrev pub near_names : TreeFacts → Option (List ℕ) → List ℕ → List (List ℕ)
near_names tree told asked = take most_names (near_from tree told asked 0 tree.names)

-- The names as a question: `A, B or C? `.
abbrev pub behind_name : ℕ → List ℕ
behind_name zero = codes "? "
behind_name (suc zero) = codes " or "
behind_name (suc (suc more)) = codes ", "

abbrev pub question : List (List ℕ) → List ℕ
question [] = []
question (name ∷ names) = name ++ behind_name (length names) ++ question names

-- A prefix of the requested name is left out. The questions of K7 and of E24.
abbrev pub bare : List ℕ → List ℕ → List ℕ
bare prefix asked = elim (without_prefix prefix asked) [ None ↦ asked | Some rest ↦ rest ]

abbrev pub typed_text : TreeFacts → List ℕ → List ℕ → List ℕ
typed_text tree prefix asked = question (near_names tree None (bare prefix asked))

abbrev pub mentioned_text : TreeFacts → List ℕ → List ℕ → List ℕ
mentioned_text tree prefix asked = question (near_names tree (Some asked) (bare prefix asked))
