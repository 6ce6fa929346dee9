-- Why `plain_end` keeps its contract: the map is held against the definition at each of the 256 bytes, by computing.
use Rattle.std.proofs.{Common.{Bool, List, arith, inl, inr, length, refl, ℕ, ◌+◌, ◌-◌, ◌≤◌}, lemmas.Bool.{cases_lt, not-false, not-true}}
use Rattle.std.specs.Prelude.{not}
use Rattle.kc_text.specs.{LexerParts.{ArePlain, is_plain}, declared.lexer.TheConstants.PLAIN_MAP}
use Rattle.kc_text.proofs.{Loads.{fails_before, few, none_passes, passes_there}, Tables.{agree_below, comma_stops, sign_passes}}
use Rattle.kc_text.proofs.lexer.plain_end.Goals as goal

abbrev stops : ℕ → Bool
stops b = not (is_plain b)

room : (body : List ℕ) (n : ℕ) → n ≤ length body → 16 ≤ length body - n → n + 16 ≤ length body
room body n within more = omega arith

joined : (body : List ℕ) (i j n : ℕ) → ArePlain body i j → ArePlain body j n → ArePlain body i n
joined body i j n front back k from lt = elim (cases_lt k j) [ inl before ↦ front k from before | inr after ↦ back k after lt ]

pub returns-then-found-ne0-clause-within : goal.returns-then-found-ne0-clause-within
returns-then-found-ne0-clause-within c =
    let enough = room c.args.body.now c.lanes.n c.lanes.invariant.within c.lanes-test.true in
    omega (arith, enough, few stops c.args.body.now c.lanes.n _ enough c.not_plain-found.ensures (omega (arith, c.if-found-ne0.true)))

pub returns-then-found-ne0-clause-plain : goal.returns-then-found-ne0-clause-plain
returns-then-found-ne0-clause-plain c =
    let enough = room c.args.body.now c.lanes.n c.lanes.invariant.within c.lanes-test.true in
    joined c.args.body.now c.args.at c.lanes.n _ c.lanes.invariant.plain
    (λ k from lt. not-false _ (fails_before stops c.args.body.now c.lanes.n _ enough c.not_plain-found.ensures (omega (arith, c.if-found-ne0.true)) k from lt))

pub returns-then-found-ne0-clause-stops : goal.returns-then-found-ne0-clause-stops
returns-then-found-ne0-clause-stops c lt =
    let enough = room c.args.body.now c.lanes.n c.lanes.invariant.within c.lanes-test.true in
    not-true _ (passes_there stops c.args.body.now c.lanes.n _ enough c.not_plain-found.ensures (omega (arith, c.if-found-ne0.true)))

pub lanes-preserved : goal.lanes-preserved
lanes-preserved c =
    let enough = room c.args.body.now c.lanes.n c.lanes.invariant.within c.lanes-test.true in
    record {
      order = omega (arith, c.lanes.invariant.order);
      within = enough;
      plain = joined c.args.body.now c.args.at c.lanes.n _ c.lanes.invariant.plain
          (λ k from lt. not-false _ (none_passes stops c.args.body.now c.lanes.n _ enough c.not_plain-found.ensures c.if-found-ne0.false k from lt));
    }

pub returns-clause-plain : goal.returns-clause-plain
unfolding agree_below
returns-clause-plain c = joined c.args.body.now c.args.at c.lanes.n c.run_end.result c.lanes.invariant.plain
    (λ k from lt. sign_passes PLAIN_MAP is_plain _ (c.type_inv.body k).fits (c.run_end.ensures.passes k from lt) refl)

pub returns-clause-stops : goal.returns-clause-stops
unfolding agree_below
returns-clause-stops c lt = comma_stops PLAIN_MAP is_plain _ (c.type_inv.body c.run_end.result).fits (c.run_end.ensures.stops lt) refl
