use Rattle.std.proofs.Common.{Bool, List, Option, ap, drop, get_or, length, sym, ℕ, ◌+◌, ◌<◌, ◌||◌, ◌∙◌, ◌≡◌}
use Rattle.std.specs.Option.{is_some}
use Rattle.kc_language.specs.{Expressions.Form, Statements.InputPrompt, Symbols.prompt_of}
use Rattle.kc_entries.specs.{Entries.{attribute_line, first_line, own_lines}, StatementViews.attribute_view, declared.entries.{AttributeLine.AttributeLine, Entry.Entry}}
use Rattle.kc_tree.specs.declared.rows.Symbol.{Symbol}
use Rattle.kc_build.specs.{Diagnosed.{Diagnosis, diagnosis_view, line_diagnosed, lines_diagnosed}, Quiet.is_quiet, declared.diagnostics.{Diagnostics.Diagnostics, EntrySummary.EntrySummary}}
use Rattle.kc_build.proofs.{QuietLemmas.{no_prompt, quiet-line}, diagnostics.Diagnostics.diagnose_entry.Goals.{else-not-is_quiet, then-not-is_quiet+in_ok-diagnose_attribute}}
use Rattle.kc_build.proofs.diagnostics.Diagnostics.diagnose_entry.Goals as goal
use Rattle.kc_entries.proofs.PlaceLemmas.{drop_at, drop_past}

module _ (names : List (List ℕ)) (symbols : List Symbol) (summary : EntrySummary) (first : Entry) where
  next : (xs : List AttributeLine) (i : ℕ) (x : AttributeLine) (p q : Bool) (d e r : Diagnosis) → i < length xs → x ≡ get_or xs i x →
      e ≡ line_diagnosed names symbols summary p (attribute_line first.file.value.items x.line x.attribute) d → q ≡ (p || is_some (prompt_of (attribute_view x.attribute))) →
      lines_diagnosed names symbols summary p (own_lines first (drop i xs)) d ≡ r →
      lines_diagnosed names symbols summary q (own_lines first (drop (i + 1) xs)) e ≡ r
  next xs i x p q d e r h at n b is =
      ap (λ (c : Bool). lines_diagnosed names symbols summary c (own_lines first (drop (i + 1) xs)) e) b
      ∙ ap (lines_diagnosed names symbols summary (p || is_some (prompt_of (attribute_view x.attribute))) (own_lines first (drop (i + 1) xs))) n
      ∙ ap (λ (l : List AttributeLine). lines_diagnosed names symbols summary p (own_lines first l) d) (sym (drop_at xs i x h at))
      ∙ is

pub loop-line-init : goal.loop-line-init
loop-line-init c =
    let names = c.args.names.now in
    let symbols = c.args.symbols.now in
    let summary = c.args.summary in
    let first = first_line c.args.lines.first.now in
    let old = diagnosis_view c.args.self.now in
    let own = own_lines c.args.lines.first.now c.args.lines.attributes.now in
    ap (λ (o : Option (InputPrompt Form)). lines_diagnosed names symbols summary (is_some o) own (diagnosis_view c.diagnose_head.new.self)) (sym (no_prompt c.args.lines.first.now.head))
    ∙ ap (lines_diagnosed names symbols summary (is_some (prompt_of first.statement)) own) c.in_ok-diagnose_head.ensures

pub loop-line-preserved : goal.loop-line-preserved
loop-line-preserved c =
    let names = c.args.names.now in
    let symbols = c.args.symbols.now in
    let summary = c.args.summary in
    let prompted = c.loop-line.prompted in
    let first = c.args.lines.first.now in
    let own = c.args.lines.attributes.now in
    let x = c.line-item.result in
    let line = attribute_line first.file.value.items x.line x.attribute in
    let old = diagnosis_view c.loop-line.self in
    let step : (now : Diagnostics) → diagnosis_view now ≡ line_diagnosed names symbols summary prompted line old → _ =
    λ now n. next names symbols summary first own c.loop-line.line-index x prompted c.is_prompted-prompted.result old (diagnosis_view now) _ c.loop-line-test.true
    c.line-item.is n c.is_prompted-prompted.ensures c.loop-line.invariant in
    elim c.if-not-is_quiet.branch [
      | then-not-is_quiet+in_ok-diagnose_attribute v ↦ rw v.self-is (step v.diagnose_attribute.new.self (v.in_ok-diagnose_attribute.ensures
          ∙ (λ i. line_diagnosed names symbols summary prompted (attribute_line (v.place_in-place.ensures.file i) (v.place_in-place.ensures.line i) x.attribute) old)))
      | else-not-is_quiet v ↦ rw v.self-is (step c.loop-line.self (sym (quiet-line names symbols summary prompted line old
          (ap (λ k. is_quiet k prompted (attribute_view x.attribute)) (sym c.own_type-own_type.ensures) ∙ sym c.is_quiet.ensures ∙ v.if-not-is_quiet.false))))
    ]

pub returns : goal.returns
returns c =
    let first = c.args.lines.first.now in
    ap (λ (l : List AttributeLine). lines_diagnosed c.args.names.now c.args.symbols.now c.args.summary c.loop-line.prompted (own_lines first l)
    (diagnosis_view c.loop-line.self)) (sym (drop_past c.args.lines.attributes.now c.loop-line.line-index c.loop-line-test.false)) ∙ c.loop-line.invariant
