-- Trusted: An optional choice, as a number.
use Rattle.std.specs.{Coded.{Coded, code_by, coded_ℕ}, Prelude.{None, Option, Some, refl, suc, zero, ℕ}}
use Rattle.kc_language.specs.declared.symbols.ChoiceId.{ChoiceId}

-- the choice of a number counted from 1; none for 0
abbrev pub choice_numbered : ℕ → Option ChoiceId
choice_numbered zero = None
choice_numbered (suc n) = Some (record { 0 = n })

-- how the logic encodes a choice
abbrev pub choice_id_code : Coded ChoiceId
choice_id_code = code_by ℕ coded_ℕ (λ k. k.0) (λ n. record { 0 = n }) (λ _. refl)
