use Rattle.std.proofs.{Common.{List, arith, drop, length, length-drop, subst, take, ℕ, ◌++◌, ◌-◌, ◌≡◌}, lemmas.{List.take_all, Result.err_from_is_err_and}}
use Rattle.kc_input.specs.{Feeding.{Feeds, StopsBecause, StreamPosition, fed}, ReaderView.position_of}
use Rattle.kc_input.proofs.{FedLemmas.{fed-nothing, take_on}, FeedLemmas.{Feeds-append, Feeds-nothing, Refuses-at}}
use Rattle.kc_input.proofs.line_buffer.take_piece.Goals as goal

pub loop-at-init : goal.loop-at-init
loop-at-init c =
    let stream = c.args.stream.now in
    record {
      within = omega arith;
      taken = Feeds-nothing stream.tree.now stream.prefix.now stream.name.now (position_of c.args.line_buffer.now) c.args.user.now c.args.told.now.items;
      position = fed-nothing (position_of c.args.line_buffer.now) c.requires.within;
      opened = c.requires;
    }

pub loop-at-preserved : goal.loop-at-preserved
loop-at-preserved c =
    let stream = c.args.stream.now in
    let invariant = c.loop-at.invariant in
    let ensures = c.in_ok-at.ensures in
    let at = c.loop-at.at in
    let n = c.in_ok-at.field-0 in
    let front = take at c.args.piece.now in
    let left = take_all (length c.args.piece.now - at) (drop at c.args.piece.now) (let count = length-drop at c.args.piece.now in omega (arith, count)) in
    let next = take n (drop at c.args.piece.now) in
    let old = position_of c.args.line_buffer.now in
    let mid = position_of c.loop-at.line_buffer in
    let new = position_of c.take_front.new.line_buffer in
    let fed_next = subst (λ l. Feeds stream.tree.now stream.prefix.now stream.name.now (take n l) mid new c.loop-at.user c.take_front.new.user
    c.loop-at.told.items c.take_front.new.told.items) left ensures.taken.ok in
    let spot_next = subst (λ l. (before : List ℕ) (first : StreamPosition) → mid ≡ fed before first → new ≡ fed (before ++ take n l) first) left ensures.taken.position in
    let fits = ensures.taken.within in
    let count = length-drop at c.args.piece.now in
    record {
      within = omega (arith, fits, count, invariant.within);
      taken = rw (take_on at n c.args.piece.now) (Feeds-append stream.tree.now stream.prefix.now stream.name.now front next old mid
          (position_of c.take_front.new.line_buffer) c.args.user.now c.loop-at.user c.take_front.new.user _ _ _ invariant.taken fed_next);
      position = rw (take_on at n c.args.piece.now) (spot_next front old invariant.position);
      opened = ensures.opened;
    }

pub returns-in_err-at-clause-err : goal.returns-in_err-at-clause-err
returns-in_err-at-clause-err c =
    let p = err_from_is_err_and c.from_residual.result c.from_residual.ensures.1 in
    let stream = c.args.stream.now in
    let ensures = c.in_err-at.ensures in
    let left = take_all (length c.args.piece.now - c.loop-at.at) (drop c.loop-at.at c.args.piece.now) (let count = length-drop c.loop-at.at c.args.piece.now in omega (arith, count)) in
    rw (p.1, p.2, ensures.unchanged.0, ensures.unchanged.1, ensures.unchanged.2)
    (Refuses-at stream.tree.now stream.prefix.now stream.name.now _ c.args.piece.now c.loop-at.at (position_of c.args.line_buffer.now)
    (position_of c.loop-at.line_buffer) c.args.user.now c.loop-at.user _ _
    c.loop-at.invariant.position c.loop-at.invariant.taken
    (subst (λ l. StopsBecause stream.tree.now stream.prefix.now stream.name.now c.in_err-at.field-0.0 l (position_of c.loop-at.line_buffer) c.loop-at.user)
    left ensures.err))
