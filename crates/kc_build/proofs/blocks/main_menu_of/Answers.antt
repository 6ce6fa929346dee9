use Rattle.std.proofs.{Common.{List, ap, arith, get_or, length, ℕ, ◌<◌, ◌∙◌, ◌≡◌, ◌≤◌}, lemmas.Result.IfOk-weaker}
use Rattle.kc_language.specs.Symbols.{facts_with}
use Rattle.kc_entries.specs.{Entries.lines_in, PartsOfSymbols.title_of, StatementViews.head_view}
use Rattle.kc_build.proofs.{MainMenuLemmas.{title-all, title-new, title-same}, blocks.main_menu_of.Goals.{in-MainMenu, in_default}}
use Rattle.kc_build.proofs.blocks.main_menu_of.Goals as goal

pub loop-entry-preserved : goal.loop-entry-preserved
loop-entry-preserved c =
    let xs = c.args.entries.now.first_lines.items in
    let i = c.loop-entry.entry-index in
    let x = c.entry-item.result in
    let same = c.deref-entry-items.ensures.value in
    let below : c.loop-entry.entry-index < length c.args.entries.now.first_lines.items = omega (arith, c.loop-entry-test.true, ap length c.deref-entry-items.ensures.value) in
    let at : c.entry-item.result ≡ get_or c.args.entries.now.first_lines.items c.loop-entry.entry-index c.entry-item.result = c.entry-item.is ∙ ap (λ l. get_or l i x) same in
    elim c.match-entry.branch [
      | in-MainMenu w ↦
          ap (λ b. b.now) w.last-is ∙ w.deref-last.ensures.value ∙ ap (λ v. v.items) w.deref.ensures
          ∙ title-new xs i x below at w.in-MainMenu.text.value.items (ap (λ h. title_of (head_view h)) w.in-MainMenu.is)
      | in_default w ↦ ap (λ b. b.now) w.last-is ∙ c.loop-entry.invariant ∙ title-same xs i x below at w.in_default.not-MainMenu
    ]

pub returns : goal.returns
returns c =
    let end : length c.args.entries.now.first_lines.items ≤ c.loop-entry.entry-index = omega (arith, c.loop-entry-test.false, ap length c.deref-entry-items.ensures.value) in
    IfOk-weaker c.from_slice.result (λ v. v.items ≡ c.loop-entry.last.now) (λ v. (names : List (List ℕ)) → v.items ≡ (facts_with names (lines_in c.args.entries.now)).main_menu)
    (λ v e names. e ∙ c.loop-entry.invariant ∙ title-all c.args.entries.now names c.loop-entry.entry-index end) c.from_slice.ensures.items
