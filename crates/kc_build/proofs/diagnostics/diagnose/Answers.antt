use Rattle.std.proofs.{Common.{add-one, ap, arith, length, refl, subst, sym, ◌∙◌, ◌≡◌}, lemmas.List.length-map}
use Rattle.kc_entries.specs.{Entries.lines_in, StatementViews.head_view}
use Rattle.kc_tree.specs.EntryViews.{index_of}
use Rattle.kc_tree.proofs.IndexLemmas.{index-end, index-first}
use Rattle.kc_build.specs.{ChoicesPassed.IsSummary, Diagnosed.IsDiagnosed}
use Rattle.kc_build.proofs.{DiagnoseLemmas.{ArePassed, entry-next, none-passed, passed-few, passed-next}, DiagnosedLemmas.diagnosed_start, StandingLemmas.no-entry}
use Rattle.kc_build.proofs.diagnostics.diagnose.Goals as goal

pub entries-init : goal.entries-init
entries-init c =
    let es = c.args.entries.now in
    let d = c.new-diagnostics in
    record {
      passed = none-passed es _ refl refl;
      diagnosed = subst (λ n. IsDiagnosed c.args.names.now (lines_in es) n d.result) (sym (index-first es))
          (diagnosed_start c.args.names.now (lines_in es) d.result d.ensures.warnings d.ensures.member d.ensures.default);
    }

pub of-requires : goal.of-requires
of-requires c = omega (arith, c.in-Some.ensures.there, c.requires.few.entries)

pub pass-requires : goal.pass-requires
pass-requires c = passed-few c.args.entries.now c.entries.i c.entries.choices c.requires.few c.entries.invariant.passed

pub entries-preserved : goal.entries-preserved
entries-preserved c =
    let es = c.args.entries.now in
    let i = c.entries.i in
    let x = c.in-Some.lines in
    let begins = c.in-Some.ensures in
    let k = c.entries.invariant in
    record {
      passed = rw add-one (subst (ArePassed es _) (sym c.pass.ensures) (passed-next es c.requires.apart i x begins c.entries.choices c.requires.closed k.passed));
      diagnosed = rw add-one (entry-next es c.requires.apart i x begins c.args.symbols.now c.requires.known c.requires.below c.args.names.now c.entries.choices c.summary_of-summary.result
          c.entries.diagnostics c.diagnose_entry.new.self k.passed
          (subst (λ n. IsSummary c.args.symbols.now n (head_view x.first.now.head) c.entries.choices c.summary_of-summary.result) c.of.ensures c.summary_of-summary.ensures) k.diagnosed c.in_ok-diagnose_entry.ensures);
    }

pub returns : goal.returns
returns c =
    let es = c.args.entries.now in
    let end = no-entry es c.entries.i c.entries.invariant.passed.within c.in_default.ensures in
    let all : index_of es c.entries.i ≡ length (lines_in es) = ap (index_of es) end ∙ index-end es ∙ length-map (lines_in es) (λ l. l.statement) in
    subst (λ n. IsDiagnosed c.args.names.now (lines_in es) n c.entries.diagnostics) all c.entries.invariant.diagnosed
