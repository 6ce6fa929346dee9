-- The tristate upgrade, by whether the type is tristate under the values.
use Rattle.std.proofs.Common.{Bool, cond, false, refl, sym, true, ◌≡◌}
use Rattle.std.specs.Prelude.{not}
use Rattle.kc_language.specs.{Expressions.SymbolValue, Symbols.TreeFacts, declared.expressions.{SymId.SymId, SymbolType.{SymbolType, TheVariants.{Bool as IsBool, Hex, Int, Str, Tristate, Undefined}}, Tri.{TheVariants.{M, N, Y}, Tri}}}
use Rattle.kc_language.specs.Values as v

module _ (tree : TreeFacts) (known : SymId → SymbolValue) where
  either : (b : Bool) (t : Tri) → v.upgrade t ≡ t → t ≡ cond b (v.upgrade t) t
  either true t e = sym e
  either false t e = refl

  -- n and y stay
  stays : (symbol_type : SymbolType) (t : Tri) → v.upgrade t ≡ t → t ≡ v.upgraded tree known symbol_type t
  stays Undefined t e = sym e
  stays IsBool t e = sym e
  stays Tristate t e = either (v.is_n (v.modules_value known tree.modules)) t e
  stays Str t e = sym e
  stays Int t e = sym e
  stays Hex t e = sym e

  pub n_stays : (symbol_type : SymbolType) → N ≡ v.upgraded tree known symbol_type N
  n_stays symbol_type = stays symbol_type N refl

  pub y_stays : (symbol_type : SymbolType) → Y ≡ v.upgraded tree known symbol_type Y
  y_stays symbol_type = stays symbol_type Y refl

  is_upgraded : (b : Bool) → not b ≡ false → Y ≡ cond b Y M
  is_upgraded true e = refl
  is_upgraded false e = absurd cc

  is_kept : (b : Bool) → not b ≡ true → M ≡ cond b Y M
  is_kept false e = refl
  is_kept true e = absurd cc

  -- m is y where the type is not tristate
  pub m_upgraded : (symbol_type : SymbolType) → v.is_tristate tree known symbol_type ≡ false → Y ≡ v.upgraded tree known symbol_type M
  m_upgraded Undefined e = refl
  m_upgraded IsBool e = refl
  m_upgraded Tristate e = is_upgraded (v.is_n (v.modules_value known tree.modules)) e
  m_upgraded Str e = refl
  m_upgraded Int e = refl
  m_upgraded Hex e = refl

  -- and stays where it is
  pub m_kept : (symbol_type : SymbolType) → v.is_tristate tree known symbol_type ≡ true → M ≡ v.upgraded tree known symbol_type M
  m_kept Undefined e = absurd cc
  m_kept IsBool e = absurd cc
  m_kept Tristate e = is_kept (v.is_n (v.modules_value known tree.modules)) e
  m_kept Str e = absurd cc
  m_kept Int e = absurd cc
  m_kept Hex e = absurd cc
