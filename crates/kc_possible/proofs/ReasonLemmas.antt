-- Symbols that are n whatever values the symbols may have.
use Rattle.std.proofs.{Common.{All, List, [], subst, sym, take, ℕ, ◌≡◌}, lemmas.List.Elements.{All-nil, All-take}}
use Rattle.kc_language.specs.{Expressions.{SymbolValue, truth_of_value}, Values.known_from, declared.expressions.{SymId.SymId, Tri.TheVariants.N}}
use Rattle.kc_possible.specs.{PartsOfPossible.AreOff, Possible.{Allows, IsOff, IsSound}, declared.possible.Possible.Possible}

pub none_off : (p : Possible) (found : List SymId) → found ≡ [] → AreOff p found
none_off p found e = subst (AreOff p) (sym e) (All-nil (λ s. (known : SymId → SymbolValue) → Allows p known → truth_of_value (known s) ≡ N))

pub off_taken : (p : Possible) (n : ℕ) (found : List SymId) → AreOff p found → AreOff p (take n found)
off_taken p n found off = All-take (λ s. (known : SymId → SymbolValue) → Allows p known → truth_of_value (known s) ≡ N) n found off

-- under any input they are n
pub always_off : (p : Possible) (found : List SymId) → IsSound p → AreOff p found → All (IsOff p.laid.tree.now) found
always_off p found sound off = λ k d lt user V under. off k d lt (known_from p.laid.tree.now V) (sound user V under)
