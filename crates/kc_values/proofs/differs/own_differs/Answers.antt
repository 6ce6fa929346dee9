use Rattle.std.proofs.Common.{◌≡◌, Some, rules, sym}
use Rattle.kc_language.specs.Values.{facts, type_in}
use Rattle.kc_values.proofs.Laid.{type_laid}
use Rattle.kc_values.proofs.differs.own_differs.Goals as goal

pub returns-in-Bool : goal.returns-in-Bool
returns-in-Bool c =
    let t = c.args.table.now in
    let typed : type_in (facts t.tree.now c.args.id) ≡ c.args.symbol.now.symbol_type =
    sym (type_laid t.tree.now t.layout.now t.laid c.args.id.0 (Some c.args.symbol.now) (sym c.requires)) in
    search rules

pub returns-in-Tristate : goal.returns-in-Tristate
returns-in-Tristate c =
    let t = c.args.table.now in
    let typed : type_in (facts t.tree.now c.args.id) ≡ c.args.symbol.now.symbol_type =
    sym (type_laid t.tree.now t.layout.now t.laid c.args.id.0 (Some c.args.symbol.now) (sym c.requires)) in
    search rules

pub returns-in-Str : goal.returns-in-Str
returns-in-Str c =
    let t = c.args.table.now in
    let typed : type_in (facts t.tree.now c.args.id) ≡ c.args.symbol.now.symbol_type =
    sym (type_laid t.tree.now t.layout.now t.laid c.args.id.0 (Some c.args.symbol.now) (sym c.requires)) in
    search rules

pub returns-in-Int : goal.returns-in-Int
returns-in-Int c =
    let t = c.args.table.now in
    let typed : type_in (facts t.tree.now c.args.id) ≡ c.args.symbol.now.symbol_type =
    sym (type_laid t.tree.now t.layout.now t.laid c.args.id.0 (Some c.args.symbol.now) (sym c.requires)) in
    search rules

pub returns-in-Hex : goal.returns-in-Hex
returns-in-Hex c =
    let t = c.args.table.now in
    let typed : type_in (facts t.tree.now c.args.id) ≡ c.args.symbol.now.symbol_type =
    sym (type_laid t.tree.now t.layout.now t.laid c.args.id.0 (Some c.args.symbol.now) (sym c.requires)) in
    search rules

pub returns-in-Undefined : goal.returns-in-Undefined
returns-in-Undefined c =
    let t = c.args.table.now in
    let typed : type_in (facts t.tree.now c.args.id) ≡ c.args.symbol.now.symbol_type =
    sym (type_laid t.tree.now t.layout.now t.laid c.args.id.0 (Some c.args.symbol.now) (sym c.requires)) in
    search rules
