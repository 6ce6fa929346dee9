use Rattle.std.proofs.{Common.{ap, arith, flat_map, get_or, length, map, refl, sym, take, ◌∙◌, ◌≡◌}, Math.Seq.take-length}
use Rattle.kc_diagnostics.specs.Warnings.{owned_warning}
use Rattle.kc_language.specs.{ConfigFile.place_at, Expressions.symbol, Values.SymbolPlace}
use Rattle.kc_tree.specs.Layouts.{facts_of}
use Rattle.kc_values.specs.{PartsOfTexts.warnings_at, User.given_in}
use Rattle.kc_solve.specs.Flags.{values_in}
use Rattle.kc_solve.proofs.{FlagSteps.solved_here, TableSteps.{defined_are, defined_below, row_count, row_facts}, UserSteps.place_mapped, WarningSteps.{one_more_off, one_more_warned}}
use Rattle.kc_solve.proofs.flags.warnings_of.Goals.{then-not-is_off+in_ok-warnings_into, else-not-is_off}
use Rattle.kc_solve.proofs.flags.warnings_of.Goals as goal

pub symbol_row-symbol-requires : goal.symbol_row-symbol-requires
symbol_row-symbol-requires c = defined_below c.args.table.now c.defined-id-items.result.now c.loop-id.id-index c.defined-id-items.ensures c.loop-id-test.true

pub get-own-requires : goal.get-own-requires
get-own-requires c =
    let t = c.args.table.now in
    let below = defined_below t c.defined-id-items.result.now c.loop-id.id-index c.defined-id-items.ensures c.loop-id-test.true in
    omega (arith, below, row_count t, c.requires.user.symbols)

pub loop-id-preserved : goal.loop-id-preserved
loop-id-preserved c =
    let t = c.args.table.now in
    let u = c.args.user.now in
    let ids = c.defined-id-items.result.now in
    let i = c.loop-id.id-index in
    let id = get_or ids i (symbol 0) in
    let s = c.symbol_row-symbol.result.now in
    let f = facts_of t.layout.now id.0 s in
    let at = row_facts t id s c.symbol_row-symbol.ensures in
    elim c.if-not-is_off.branch [
      | then-not-is_off+in_ok-warnings_into w ↦
          one_more_warned t.tree.now t.values u ids i f (given_in w.get-own.result) _ _ c.requires.full c.loop-id-test.true at (place_mapped w.get-own.result ∙ w.get-own.ensures) c.loop-id.invariant
          (ap (λ v. map owned_warning v.items) w.warnings-is ∙ w.in_ok-warnings_into.ensures)
      | else-not-is_off w ↦
          let own = place_at u (SymbolPlace id.0) in
          let below = defined_below t ids i c.defined-id-items.ensures c.loop-id-test.true in
          let solved = solved_here t.tree.now t.values c.requires.full (place_at u) id.0 f at _ _ refl refl c.requires.solves (omega (arith, below, row_count t)) own refl in
          ap (λ v. map owned_warning v.items) w.warnings-is
          ∙ one_more_off t.tree.now t.values u ids i f own _ c.requires.full c.loop-id-test.true at refl c.loop-id.invariant (sym (w.if-not-is_off.ensures)) solved
    ]

pub returns : goal.returns
returns c =
    let t = c.args.table.now in
    let ids = c.defined-id-items.result.now in
    let end : c.loop-id.id-index ≡ length ids = omega arith in
    c.loop-id.invariant
    ∙ ap (flat_map (λ s. warnings_at t.tree.now (place_at c.args.user.now) (values_in t) s.0)) (ap (λ k. take k ids) end ∙ take-length ids ∙ c.defined-id-items.ensures ∙ defined_are t)
