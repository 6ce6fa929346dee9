-- What holds at each turn of the loop of `digits_len`.
use Rattle.std.proofs.Common.{◌≡◌, ◌-◌, ◌≤◌, length, take, true}
use Rattle.kc_text.specs.PartsOfText.{all_digits}
use Rattle.kc_text.proofs.marker.digits_len.Given as goal

abbrev pub invariant-digits : goal.invariant-digits
invariant-digits l = record { within : l.n ≤ length l.text; digits : all_digits 10 (take l.n l.text) ≡ true }

abbrev pub decreases-digits : goal.decreases-digits
decreases-digits l = length l.text - l.n
