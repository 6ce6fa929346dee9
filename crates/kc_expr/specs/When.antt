-- Trusted: The condition of a line, if it has one, without its layout in memory.
use Rattle.std.specs.{Prelude.{Option, option_map}, declared.{alloc.Global.Global, rc.Rc.Rc}}
use Rattle.kc_expr.specs.{Form.form_of, declared.expression.Expr.Expr}
use Rattle.kc_language.specs.Expressions.{Form}

abbrev pub when_view : Option (Rc Expr Global) → Option Form
when_view = option_map (λ e. form_of e.value)
