use Rattle.std.proofs.Common.{ap, sym, ℕ, ◌∙◌}
use Rattle.std.specs.{Prelude.is_some, declared.{alloc.Global.Global, vec.Vec.Vec}}
use Rattle.kc_read.specs.LineReads.{lexemes_from}
use Rattle.kc_read.proofs.PartLemmas.{operand_constant, operand_name, operand_quoted}
use Rattle.kc_read.proofs.line_parts.operand_at.Goals as goal

pub returns-in-Some-clause-operand : goal.returns-in-Some-clause-operand
returns-in-Some-clause-operand c =
    operand_constant (lexemes_from c.args.tokens.now c.args.at) _ c.in-Some-Word.word.now c.in-Some.constant c.args.names.now
    (rw c.in-Some-Word.field-0-is at c.in-Some-Word.ensures).1 (sym c.is_if.ensures ∙ c.if-is_if.false) (sym c.in-Some.ensures)

pub returns-in_ok-id-in-Some-Word-clause-operand : goal.returns-in_ok-id-in-Some-Word-clause-operand
returns-in_ok-id-in-Some-Word-clause-operand c =
    operand_name (lexemes_from c.args.tokens.now c.args.at) _ c.in-Some-Word.word.now c.in_ok-id-in-Some-Word.id c.args.names.now c.name_number.new.names
    (rw c.in-Some-Word.field-0-is at c.in-Some-Word.ensures).1 (sym c.is_if.ensures ∙ c.if-is_if.false)
    (sym (ap is_some c.in_default-tristate_constant.ensures)) c.in_ok-id-in-Some-Word.ensures.number c.in_ok-id-in-Some-Word.ensures.mentions

pub returns-in_ok-new-in-Some-Quoted-clause-operand : goal.returns-in_ok-new-in-Some-Quoted-clause-operand
returns-in_ok-new-in-Some-Quoted-clause-operand c =
    operand_quoted (lexemes_from c.args.tokens.now c.args.at) _ c.in-Some-Quoted.text.now c.in_ok-new-in-Some-Quoted.field-0.value.items c.args.names.now
    (rw c.in-Some-Quoted.field-0-is at c.in-Some-Quoted.ensures).1
    (ap (λ (v : Vec ℕ Global). v.items) c.in_ok-new-in-Some-Quoted.ensures.ok ∙ rw c.new-bytes.ensures.items at c.in_ok-unescape_into-in-Some-Quoted.ensures.ok)
