-- Why `next_single` keeps its contract.
use Rattle.std.proofs.{Common.{ap, arith, refl, sym, ◌∙◌}, lemmas.Bool.eqb-true}
use Rattle.kc_language.specs.Lines.{UnreadLines}
use Rattle.kc_text.proofs.{Joins.{none_single, refused_none, single_line}, LongLineLemmas.long_in_end, Physicals.lines_at_end, logical.LogicalLines.next_single.Goals.{then-is_some-via-else-is_some+then-is_empty, then-is_some-via-then-is_some}}
use Rattle.kc_text.proofs.logical.LogicalLines.next_single.Goals as goal

pub returns-clause-some : goal.returns-clause-some
returns-clause-some c =
    single_line c.self.inside.rest.now c.first_physical-physical.result.after.now c.self.inside.number c.saturating_add-self-inside.result
    (record { text = c.first_physical-physical.result.text.now; ended = c.first_physical-physical.result.ended })
    c.first_physical-physical.ensures.first (cc) (omega arith) c.saturating_add-self-inside.ensures
    c.args.self.now c.self.inside.refusal c.self.view_is (sym c.is_some.ensures ∙ c.if-is_some.false)

pub returns-then-is_some-clause-none : goal.returns-then-is_some-clause-none
returns-then-is_some-clause-none c = (
  refl,
  λ clear one.
      elim c.then-is_some.branch [
        | then-is_some-via-then-is_some w ↦ refused_none c.self.inside.refusal (sym c.is_some.ensures ∙ w.if-is_some.true) (ap (λ (v : UnreadLines). v.refusal) c.self.view_is ∙ clear)
        | then-is_some-via-else-is_some+then-is_empty w ↦ none_single c.args.self.now
            (ap (λ (v : UnreadLines). v.lines) (sym c.self.view_is)
            ∙ lines_at_end c.self.inside.rest.now (eqb-true _ 0 (sym w.is_empty.ensures ∙ w.if-is_empty.true))) one
      ],
)

pub invariant_of-self : goal.invariant_of-self
invariant_of-self c = long_in_end c.self.inside.rest.now c.first_physical-physical.result.after.now c.self.inside.long.now c.first_physical-physical.ensures.end c.self.invariant
