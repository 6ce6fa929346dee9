use Rattle.kc_language.specs.{Expressions.names_in_atom, Statements.{RangeLine, names_in_condition}}
use Rattle.std.proofs.Common.{ap, ◌++◌, ◌∙◌}
use Rattle.kc_expr.specs.{Form.leaf_of, When.when_view}
use Rattle.kc_entries.specs.{PartsOfStatements.ReadsRange, declared.statement.SymbolRange.SymbolRange}
use Rattle.kc_read.specs.LineReads.{lexemes_from}
use Rattle.kc_expr.proofs.NamesLemmas.{extends_on, mentioned_on}
use Rattle.kc_read.proofs.{FrontLemmas.{after_one, after_two}, PartLemmas.{memory_passed, range_fault, range_ok, read_passed}}
use Rattle.kc_read.proofs.reader.range_line.Goals as goal

pub returns-clause-read : goal.returns-clause-read
returns-clause-read c =
    let ts = c.args.tokens.now in
    let a = c.in_ok-low.ensures.operand in
    let b = c.in_ok-high.ensures.operand in
    let w = c.in_ok-when.ensures.condition in
    let mid = extends_on c.operand_at-2.new.names c.condition.new.names in (
      RangeLine a.atom b.atom w.tree,
      range_ok (lexemes_from ts 1) (lexemes_from ts 2) (lexemes_from ts 3) a.atom b.atom w.tree a.part_is (after_one ts 1) b.part_is (after_two ts 1) w.condition_is,
      record {
        mentions =
            mentioned_on c.args.names.now c.operand_at.new.names c.condition.new.names (names_in_atom a.atom) (names_in_atom b.atom ++ names_in_condition w.tree) a.mentions
            (mentioned_on c.operand_at.new.names c.operand_at-2.new.names c.condition.new.names (names_in_atom b.atom) (names_in_condition w.tree) b.mentions w.mentions);
        form = λ later x. ap (λ (r : SymbolRange). RangeLine (leaf_of r.low) (leaf_of r.high) (when_view r.when)) c.in_ok-range.ensures.ok
            ∙ (λ i. RangeLine (a.form later (extends_on c.operand_at.new.names c.operand_at-2.new.names later c.in_ok-high.ensures.names
            (mid later c.in_ok-when.ensures.names x)) i) (b.form later (mid later c.in_ok-when.ensures.names x) i) (w.form later x i));
      },
    )

pub returns-in_err-when-clause-read : goal.returns-in_err-when-clause-read
returns-in_err-when-clause-read c =
    let ts = c.args.tokens.now in
    let a = c.in_ok-low.ensures.operand in
    let b = c.in_ok-high.ensures.operand in
    read_passed c.args.names.now c.condition.new.names (ReadsRange (lexemes_from ts 1)) c.from_residual-in_err-when.result c.in_err-when.field-0.0 c.from_residual-in_err-when.ensures.1
    (range_fault (lexemes_from ts 1) (lexemes_from ts 2) (lexemes_from ts 3) a.atom b.atom c.in_err-when.field-0.0 a.part_is (after_one ts 1) b.part_is (after_two ts 1) c.in_err-when.ensures.fault)

pub returns-in_err-range-clause-read : goal.returns-in_err-range-clause-read
returns-in_err-range-clause-read c =
    memory_passed c.args.names.now c.condition.new.names (ReadsRange (lexemes_from c.args.tokens.now 1))
    c.from_residual-in_err-range.result c.from_residual-in_err-range.ensures.1

pub returns-in_err-high-clause-names : goal.returns-in_err-high-clause-names
returns-in_err-high-clause-names c = extends_on c.args.names.now c.operand_at.new.names c.operand_at-2.new.names c.in_ok-low.ensures.names c.in_err-high.ensures.names

pub returns-in_err-when-clause-names : goal.returns-in_err-when-clause-names
returns-in_err-when-clause-names c =
    extends_on c.args.names.now c.operand_at.new.names c.condition.new.names c.in_ok-low.ensures.names
    (extends_on c.operand_at.new.names c.operand_at-2.new.names c.condition.new.names c.in_ok-high.ensures.names c.in_err-when.ensures.names)

pub returns-in_err-range-clause-names : goal.returns-in_err-range-clause-names
returns-in_err-range-clause-names c =
    extends_on c.args.names.now c.operand_at.new.names c.condition.new.names c.in_ok-low.ensures.names
    (extends_on c.operand_at.new.names c.operand_at-2.new.names c.condition.new.names c.in_ok-high.ensures.names c.in_ok-when.ensures.names)

pub returns-clause-names : goal.returns-clause-names
returns-clause-names c =
    extends_on c.args.names.now c.operand_at.new.names c.condition.new.names c.in_ok-low.ensures.names
    (extends_on c.operand_at.new.names c.operand_at-2.new.names c.condition.new.names c.in_ok-high.ensures.names c.in_ok-when.ensures.names)
