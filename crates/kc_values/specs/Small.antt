-- Trusted: Numbers whose absolute value fits in 64 bits.
use Rattle.std.specs.Prelude.{◌<◌, unsigned_abs}
use Rattle.kc_text.specs.PartsOfText.{hex_limit}
use Rattle.kc_language.specs.declared.values.Interval.{Interval}

-- both bounds have such an absolute value
pub record HasSmallBounds (r : Interval) : Type 0 where
  pub low : unsigned_abs r.low < hex_limit
  pub high : unsigned_abs r.high < hex_limit
