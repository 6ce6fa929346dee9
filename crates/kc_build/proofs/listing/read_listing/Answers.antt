use Rattle.kc_read.specs.{Files.files_in, RefusalView.refusal_view}
use Rattle.std.proofs.Common.{Err, ◌∙◌, ◌≢◌}
use Rattle.kc_language.specs.{Expansion.Expands, declared.diagnostics.Cause.TheVariants.Memory}
use Rattle.kc_read.proofs.{OpenedOnce.are_opened, RestLemmas.refusal_passed}
use Rattle.kc_build.proofs.listing.read_listing.Goals as goal

pub listing_of-requires : goal.listing_of-requires
listing_of-requires c =
    let x = c.in_ok-expansion.ensures.expanded in
    (x.0, rw c.keyed-names.ensures at x.2)

pub returns-clause-listed : goal.returns-clause-listed
returns-clause-listed c =
    let x = c.in_ok-expansion.ensures.expanded in
    (x.0, x.1, c.listing_of.ensures.listing x.0 (rw c.keyed-names.ensures at x.2))

pub returns-clause-opened : goal.returns-clause-opened
returns-clause-opened c =
    let x = c.in_ok-expansion.ensures.expanded in
    are_opened (files_in c.args.map.now) c.args.root.now x.0 c.listing_of.result.opened x.1 (c.listing_of.ensures.opened ∙ x.2.opened_is)

pub returns-in_err-expansion-clause-refused : goal.returns-in_err-expansion-clause-refused
returns-in_err-expansion-clause-refused c =
    refusal_passed c.from_residual.result (λ r. r.cause ≢ Memory → Expands (files_in c.args.map.now) c.args.root.now (Err (refusal_view r)))
    c.in_err-expansion.field-0.0 c.from_residual.ensures.1 c.in_err-expansion.ensures.refused
