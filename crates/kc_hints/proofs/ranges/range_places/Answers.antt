use Rattle.std.proofs.Common.{ap, sym, ◌∙◌, ◌+◌, ◌++◌, append_assoc, append-nil, map}
use Rattle.kc_entries.specs.Entries.{lines_from}
use Rattle.kc_hints.specs.Facts.{range_places}
use Rattle.kc_hints.specs.RangeParts.{place_view}
use Rattle.kc_hints.proofs.RangeLemmas.{entry_ranges}
use Rattle.kc_hints.proofs.ranges.range_places.Goals as goal

pub entries-preserved : goal.entries-preserved
entries-preserved c =
    let entries = c.args.entries.now in
    let id = c.args.id in
    let old = map place_view c.entries.places.items in
    let entry = c.in-Some.entry in
    ap (λ l. l ++ range_places id (lines_from entries (c.entries.at + 1))) c.in_ok-add_entry.ensures
    ∙ append_assoc old _ (range_places id (lines_from entries (c.entries.at + 1)))
    ∙ ap (λ l. old ++ l) (sym (ap (range_places id) c.in-Some.ensures.lines ∙ entry_ranges id entries (c.entries.at + 1) entry.first.now entry.attributes.now))
    ∙ c.entries.invariant

pub returns : goal.returns
returns c = sym (append-nil _) ∙ ap (λ l. map place_view c.entries.places.items ++ range_places c.args.id l) (sym c.in_default.ensures) ∙ c.entries.invariant
