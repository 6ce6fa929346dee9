use Rattle.std.proofs.{Common.{[], arith, drop, get_or, length-take, rules, take, true, ◌∙◌, ◌∷◌, ◌≡◌}, lemmas.{Bool.eq-eqb, List.{drop_more, take_more}, Result.err_from_is_err_and}}
use Rattle.kc_input.specs.{PartsOfConfigFile.{assignments, line}, ReaderView.position_of}
use Rattle.kc_input.proofs.{FedLemmas.{fed-append, fed-line, fed-others, line_next, no_bytes}, FeedLemmas.{Feeds-line, Feeds-more, StopsBecause-longer}, PlaceLemmas.ArePlacesOf-given}
use Rattle.kc_input.proofs.line_buffer.take_front.Goals as goal

pub returns-then-count-gt0-clause-taken : goal.returns-then-count-gt0-clause-taken
returns-then-count-gt0-clause-taken c = record {
  some = c.if-count-gt0.true;
  within = c.bytes_before_lf-count.ensures.within;
  ok =
      Feeds-more c.args.stream.now.tree.now c.args.stream.now.prefix.now c.args.stream.now.name.now (take c.bytes_before_lf-count.result c.args.bytes.now) (position_of c.args.line_buffer.now) _
      c.args.user.now c.args.told.now.items c.in_ok-extend_from_slice.ensures.items;
  position =
      λ before first is.
      rw c.in_ok-extend_from_slice.ensures.items
      (fed-others before (take c.bytes_before_lf-count.result c.args.bytes.now) first (position_of c.args.line_buffer.now) c.requires.opened.within c.bytes_before_lf-count.ensures.none is);
}

pub returns-in_err-take_byte-clause-err : goal.returns-in_err-take_byte-clause-err
returns-in_err-take_byte-clause-err c =
    let p = err_from_is_err_and c.from_residual-in_err-take_byte.result c.from_residual-in_err-take_byte.ensures.1 in
    let stream = c.args.stream.now in
    let whole : c.args.bytes.now ≡ get_or c.args.bytes.now 0 0 ∷ drop 1 c.args.bytes.now = drop_more c.args.bytes.now 0 0 c.requires.some in
    rw (p.1, p.2, whole)
    (StopsBecause-longer stream.tree.now stream.prefix.now stream.name.now _ (get_or c.args.bytes.now 0 0 ∷ []) (drop 1 c.args.bytes.now)
    (position_of c.args.line_buffer.now) c.args.user.now c.in_err-take_byte.ensures.err)

pub returns-clause-taken : goal.returns-clause-taken
returns-clause-taken c = record {
  some = omega arith;
  within = c.requires.some;
  ok = search rules;
  position =
      λ before first is.
      let more : take 1 c.args.bytes.now ≡ get_or c.args.bytes.now 0 0 ∷ [] = take_more c.args.bytes.now 0 0 c.requires.some in
      rw more (c.in_ok-take_byte.ensures.position ∙ fed-append before (get_or c.args.bytes.now 0 0) first (position_of c.args.line_buffer.now) c.requires.opened.within is);
}

pub returns-then-bytes-count-eq10-clause-taken : goal.returns-then-bytes-count-eq10-clause-taken
returns-then-bytes-count-eq10-clause-taken c = record {
  some = omega arith;
  within = omega (arith, c.if-count-bytes.true);
  ok =
      let stream = c.args.stream.now in
      let at = c.bytes_before_lf-count.result in
      let byte = get_or c.args.bytes.now at 0 in
      let old = position_of c.args.line_buffer.now in
      let nothing = no_bytes c.args.line_buffer.now.pending.items c.args.line_buffer.now.pending.len (omega (arith, c.args.line_buffer.now.pending.ok.0)) c.if-is_empty.ensures in
      let few = c.bytes_before_lf-count.ensures.few in
      let front = length-take at c.args.bytes.now in
      let ensures = c.in_ok-read_numbered.ensures in
      rw (take_more c.args.bytes.now at 0 c.if-count-bytes.true)
      (Feeds-line stream.tree.now stream.prefix.now stream.name.now (take at c.args.bytes.now) byte old _ c.args.user.now c.read_numbered.new.user _ _ c.requires.opened.within nothing
      c.bytes_before_lf-count.ensures.none (omega (arith, few, front)) (eq-eqb byte 10 c.if-bytes-count-eq10.true) ensures.places ensures.warned (line_next _ _ _ ensures.next nothing));
  position =
      λ before first is.
      let at = c.bytes_before_lf-count.result in
      let byte = get_or c.args.bytes.now at 0 in
      let nothing = no_bytes c.args.line_buffer.now.pending.items c.args.line_buffer.now.pending.len (omega (arith, c.args.line_buffer.now.pending.ok.0)) c.if-is_empty.ensures in
      let few = c.bytes_before_lf-count.ensures.few in
      let front = length-take at c.args.bytes.now in
      rw (take_more c.args.bytes.now at 0 c.if-count-bytes.true)
      (fed-line before (take at c.args.bytes.now) byte first (position_of c.args.line_buffer.now) _ c.requires.opened.within nothing
      c.bytes_before_lf-count.ensures.none (omega (arith, few, front)) (eq-eqb byte 10 c.if-bytes-count-eq10.true) (line_next _ _ _ c.in_ok-read_numbered.ensures.next nothing) is);
}

pub returns-then-bytes-count-eq10-clause-opened : goal.returns-then-bytes-count-eq10-clause-opened
returns-then-bytes-count-eq10-clause-opened c =
    let stream = c.args.stream.now in
    let tree = stream.tree.now in
    let l = line stream.name.now c.args.line_buffer.now.number (take c.bytes_before_lf-count.result c.args.bytes.now) true in
    record {
      user = rw c.in_ok-read_numbered.ensures.places (ArePlacesOf-given tree c.args.user.now.places (assignments tree stream.prefix.now (l ∷ [])) c.requires.opened.user);
      within = search rules;
    }
