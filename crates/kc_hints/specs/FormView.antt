-- For proofs: The meaning of a form.
use Rattle.std.specs.Prelude.{List, ℕ}
use Rattle.kc_hints.specs.declared.form.Form.{Form}

abbrev pub form_view : Form → List ℕ × List ℕ
form_view f = (f.form.now, f.place.now)
