-- Examples for the chapter Text: numbers and escapes. The lines `unfolding` let the checker compute the number that a text writes.
use Rattle.std.proofs.Common.{◌≡◌, refl}
use Rattle.std.specs.Prelude.{None, Some, codes, neg_ℤ, pos}
use Rattle.kc_language.specs.Text.{escape, hex_of, int_of, natural_of, unescape}

-- `-12` is an int.
int_is_read : int_of (codes "-12") ≡ Some (neg_ℤ (pos 12))
unfolding natural_of
int_is_read = refl

-- 2^63 is too large for an int, and -2^63 is the least int.
int_too_large : int_of (codes "9223372036854775808") ≡ None
unfolding natural_of
int_too_large = refl

least_int : int_of (codes "-9223372036854775808") ≡ Some (neg_ℤ (pos 9223372036854775808))
unfolding natural_of
least_int = refl

-- A hex may begin with `0x`, and its digits may have either case. `0x` alone is no hex.
hex_is_read : hex_of (codes "0x1Fa") ≡ Some (pos 506)
unfolding natural_of
hex_is_read = refl

prefix_is_no_hex : hex_of (codes "0x") ≡ None
unfolding natural_of
prefix_is_no_hex = refl

-- Escaping `say "hi"` gives `say \"hi\"`, and unescaping gives the text back.
escaped_text : escape (codes "say \"hi\"") ≡ codes "say \\\"hi\\\""
escaped_text = refl

unescaped_text : unescape (codes "say \\\"hi\\\"") ≡ codes "say \"hi\""
unescaped_text = refl

-- A `\` before any other byte is dropped as well, and a `\` at the end stays.
unescaped_other : unescape (codes "C:\\dir\\") ≡ codes "C:dir\\"
unescaped_other = refl
