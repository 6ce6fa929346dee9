use Rattle.std.proofs.Common.{Bool, arith, sym, ◌∙◌, ◌≡◌}
use Rattle.std.specs.{List.flat_map, Option.is_some}
use Rattle.kc_language.specs.Statements.{Numbered}
use Rattle.kc_tree.specs.{EntryViews.statements_of, Layouts.member_named, Places.says}
use Rattle.kc_values.specs.{MadeRows.Adds, NeedRows.{choice_default_names, named, node}, Nodes.dependency_number}
use Rattle.kc_values.proofs.{RowSteps.{adds_where, adds_where_not, lines_added, lines_say}, needs.choice_defaults_into.Goals.After-loop-line}
use Rattle.kc_values.proofs.needs.choice_defaults_into.Goals as goal

added : (c : After-loop-line) → Adds c.args.out.now c.loop-line.out (named (flat_map (choice_default_names c.args.layout.now c.args.id.0) (statements_of c.args.attributes.now)))
added c =
    lines_added (choice_default_names c.args.layout.now c.args.id.0) c.args.out.now c.loop-line.out c.args.attributes.now c.loop-line.line-index (omega arith) c.loop-line.invariant.0 c.loop-line.invariant.1.0

read : (c : After-loop-line) → c.loop-line.is_read ≡ says (member_named c.args.layout.now c.args.id.0) (statements_of c.args.attributes.now)
read c =
    let p : Numbered → Bool = λ line. is_some (member_named c.args.layout.now c.args.id.0 line) in
    lines_say p c.args.attributes.now c.loop-line.line-index c.loop-line.is_read (omega arith) c.loop-line.invariant.1.1

pub returns-in_ok-dependency_into : goal.returns-in_ok-dependency_into
returns-in_ok-dependency_into c =
    let l = c.args.layout.now in
    let k = c.args.id.0 in
    let ss = statements_of c.args.attributes.now in
    let s = (goal.at.returns-in_ok-dependency_into c).After-loop-line in
    adds_where c.args.out.now c.loop-line.out c.dependency_into.new.out (named (flat_map (choice_default_names l k) ss)) (node (dependency_number l k)) (says (member_named l k) ss) (added s)
    (sym (read s) ∙ c.if-is_read.true) c.in_ok-dependency_into.ensures

pub returns-else-is_read : goal.returns-else-is_read
returns-else-is_read c =
    let l = c.args.layout.now in
    let k = c.args.id.0 in
    let ss = statements_of c.args.attributes.now in
    let s = (goal.at.returns-else-is_read c).After-loop-line in
    adds_where_not c.args.out.now c.loop-line.out (named (flat_map (choice_default_names l k) ss)) (node (dependency_number l k)) (says (member_named l k) ss) (added s) (sym (read s) ∙ c.if-is_read.false)
