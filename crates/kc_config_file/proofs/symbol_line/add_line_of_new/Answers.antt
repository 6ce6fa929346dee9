-- The comment of a symbol without a value.
use Rattle.std.proofs.Common.{Bool, List, OnOk, ap, append_assoc, codes, cond, false, subst, sym, ℕ, ◌++◌, ◌∙◌, ◌≡◌}
use Rattle.kc_language.specs.{Expressions.SymbolValue, Texts.{config_file_line, has_value, new_line}}
use Rattle.kc_config_file.specs.KnownValue.{value_view}
use Rattle.kc_config_file.proofs.symbol_line.add_line_of_new.Goals as goal

comment_is : (is_raw : Bool) (prefix name : List ℕ) (v : SymbolValue) → has_value v ≡ false →
    codes "# " ++ (prefix ++ (name ++ codes " has no value\n")) ≡ new_line is_raw (prefix ++ name) v
comment_is is_raw prefix name v none =
    ap (λ t. codes "# " ++ t) (sym (append_assoc prefix name (codes " has no value\n")))
    ∙ sym (ap (λ b. cond b (config_file_line is_raw (prefix ++ name) v) (codes "# " ++ ((prefix ++ name) ++ codes " has no value\n"))) none)

pub returns-else-has_value : goal.returns-else-has_value
returns-else-has_value c =
    let name = c.args.name.now in
    let P : List ℕ → Type 0 = λ text. OnOk c.add_parts.result (c.add_parts.new.text.items ≡ c.args.file.now.items ++ text) in
    let none : has_value (value_view c.args.value) ≡ false = sym c.has_value.ensures ∙ c.if-has_value.false in
    let added : P (codes "# " ++ (c.args.prefix.now.prefix ++ (name ++ codes " has no value\n"))) =
    subst (λ p. P (codes "# " ++ (p ++ (name ++ codes " has no value\n")))) c.as_bytes.ensures.bytes c.add_parts.ensures in
    subst P (comment_is c.args.prefix.now.is_raw c.args.prefix.now.prefix name (value_view c.args.value) none) added
