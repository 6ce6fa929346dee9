use Rattle.std.proofs.{Common.{All, List, [], ap, arith, get_or, inl, inr, length, subst, sym, take, vec_len, ℕ, ◌++◌, ◌+◌, ◌-◌, ◌<◌, ◌∙◌, ◌∷◌, ◌≡◌, ◌≤◌}, lemmas.{Bool.cases_lt, List.{Elements.Contains-get_or, Sums.sum_by-set, get_or_read, length-set}}}
use Rattle.std.specs.List.{Contains}
use Rattle.kc_order.specs.{Search.IsSearch, declared.search.NodeState.{NodeState, TheVariants.{Done, New}}}
use Rattle.kc_language.specs.Needs.{needs_in}
use Rattle.kc_order.proofs.{Held.needs_below, SearchSteps.{closes_less, closes_sound, found, gives_up_less, gives_up_sound, last_is, needs_unordered, opens_less, opens_sound, passed_to, row_passes_to}, search.advance.Goals.{After-index, After-row-row}}
use Rattle.kc_order.proofs.search.advance.Goals as goal

row_in : (c : After-row-row) → c.args.top < length c.args.search.now.left.items
row_in c = omega (arith, c.requires.top.0, c.requires.sound.left_len)

left_is : (c : After-row-row) → get_or c.args.search.now.left.items c.args.top 0 ≡ c.index-left.result.now
left_is c = sym (get_or_read c.args.search.now.left.items c.args.top c.index-left.result.now (row_in c) c.index-left.ensures 0)

-- the need that is looked at
abbrev need : After-row-row → ℕ
need c = get_or c.row-row.result.now (c.index-left.result.now - 1) 0

in_row : (c : After-row-row) → c.index-left.result.now - 1 < length (needs_in c.args.rows.now c.args.top)
in_row c = omega (arith, left_is c, c.requires.sound.keeps.left_le c.args.top c.requires.top.0)

need_in : (c : After-row-row) → Contains (needs_in c.args.rows.now c.args.top) (need c)
need_in c =
    let needs = needs_in c.args.rows.now c.args.top in
    subst (λ xs. Contains needs (get_or xs (c.index-left.result.now - 1) 0)) (sym c.row-row.ensures) (Contains-get_or needs (c.index-left.result.now - 1) 0 (in_row c))

need_below : (c : After-row-row) → need c < length c.args.rows.now
need_below c = needs_below c.args.rows.now c.requires.rows_below c.args.top (need c) c.requires.top.0 (need_in c)

mark_is : (c : After-index) → get_or c.row-row.result.now (c.index-left.result.now - 1) 0 < length c.args.rows.now →
    get_or c.args.search.now.states.items (get_or c.row-row.result.now (c.index-left.result.now - 1) 0) New ≡ c.index.result.now
mark_is c below = sym (get_or_read c.args.search.now.states.items (get_or c.row-row.result.now (c.index-left.result.now - 1) 0) c.index.result.now
    (omega (arith, c.requires.sound.states_len, below)) c.index.ensures New)

pub index-requires : goal.index-requires
index-requires c = omega (arith, need_below (goal.at.index-requires c).After-row-row, c.requires.sound.states_len, c.args.search.now.states.ok.0)

-- the last open symbol needs it
needed : (c : After-row-row) (k : ℕ) → k + 1 ≡ length c.args.search.now.path.items → Contains (needs_in c.args.rows.now (get_or c.args.search.now.path.items k 0)) (need c)
needed c k e = subst (λ x. Contains (needs_in c.args.rows.now x) (need c)) (sym (last_is c.args.search.now.path.items c.args.top _ k c.requires.top.1 e)) (need_in c)

pub open-requires : goal.open-requires
open-requires c = omega (arith, need_below (goal.at.open-requires c).After-row-row, c.requires.sound.states_len)

pub returns-then-left-eq0-clause-sound : goal.returns-then-left-eq0-clause-sound
returns-then-left-eq0-clause-sound c =
    let s = c.args.search.now in
    let row_there : c.args.top < length s.left.items = omega (arith, c.requires.top.0, c.requires.sound.left_len) in
    let none : get_or s.left.items c.args.top 0 ≡ 0 = sym (get_or_read s.left.items c.args.top c.index-left.result.now row_there c.index-left.ensures 0) ∙ c.if-left-eq0.true in
    closes_sound c.args.rows.now s c.close.new.search c.args.top c.requires.sound c.requires.rows_below c.requires.top.0 none c.in_ok-close.ensures

pub returns-then-left-eq0-clause-less : goal.returns-then-left-eq0-clause-less
returns-then-left-eq0-clause-less c =
    closes_less c.args.rows.now c.args.search.now c.close.new.search c.args.top c.requires.sound c.requires.top.0 c.in_ok-close.ensures

pub returns-in_ok-open-in-New-clause-sound : goal.returns-in_ok-open-in-New-clause-sound
returns-in_ok-open-in-New-clause-sound c =
    let s = c.args.search.now in
    let a = (goal.at.returns-in_ok-open-in-New-clause-sound c).After-row-row in
    let new = mark_is (goal.at.returns-in_ok-open-in-New-clause-sound c).After-index (need_below a) ∙ c.in-New.is in
    opens_sound c.args.rows.now s c.open.new.search (need a) c.requires.sound (need_below a) new (needed a) c.in_ok-open-in-New.ensures

pub returns-in_ok-open-in-New-clause-less : goal.returns-in_ok-open-in-New-clause-less
returns-in_ok-open-in-New-clause-less c =
    let s = c.args.search.now in
    let a = (goal.at.returns-in_ok-open-in-New-clause-less c).After-row-row in
    let new = mark_is (goal.at.returns-in_ok-open-in-New-clause-less c).After-index (need_below a) ∙ c.in-New.is in
    opens_less c.args.rows.now s c.open.new.search (need a) c.requires.sound (need_below a) new c.in_ok-open-in-New.ensures

-- the last of the needs that are left is done, and so are those before it down to j
passed_done : (states : List NodeState) (row : List ℕ) (left j : ℕ) → get_or states (get_or row (left - 1) 0) New ≡ Done →
    ((k : ℕ) → j ≤ k → k < left - 1 → get_or states (get_or row k 0) New ≡ Done) → (k : ℕ) → j ≤ k → k < left → get_or states (get_or row k 0) New ≡ Done
passed_done states row left j done passed k up b =
    elim (cases_lt k (left - 1)) [
      | inl before ↦ passed k up before
      | inr last ↦ let is : k ≡ left - 1 = omega arith in ap (λ i. get_or states (get_or row i 0) New) is ∙ done
    ]

-- the needs of the row are nodes
row_below : (c : After-row-row) → All (λ t. t < length c.args.rows.now) c.row-row.result.now
row_below c =
    let needs = needs_in c.args.rows.now c.args.top in
    subst (All (λ t. t < length c.args.rows.now)) (sym c.row-row.ensures)
    (λ k d l. needs_below c.args.rows.now c.requires.rows_below c.args.top (get_or needs k d) c.requires.top.0 (Contains-get_or needs k d l))

pub pass_done-requires-clause-count : goal.pass_done-requires-clause-count
pass_done-requires-clause-count c =
    let a = (goal.at.pass_done-requires-clause-count c).After-row-row in
    omega (arith, in_row a, ap length a.row-row.ensures)

pub pass_done-requires-clause-row : goal.pass_done-requires-clause-row
pass_done-requires-clause-row c =
    let a = (goal.at.pass_done-requires-clause-row c).After-row-row in
    subst (λ n. All (λ t. t < n) a.row-row.result.now) (sym (ap length c.deref.ensures.value ∙ c.requires.sound.states_len)) (row_below a)

pub returns-in-Done-clause-sound : goal.returns-in-Done-clause-sound
returns-in-Done-clause-sound c =
    let s = c.args.search.now in
    let h = c.requires.sound in
    let a = (goal.at.returns-in-Done-clause-sound c).After-row-row in
    let i = (goal.at.returns-in-Done-clause-sound c).After-index in
    let j = c.pass_done.result in
    record {
      states_len = h.states_len;
      left_len = length-set s.left.items c.args.top c.pass_done.result ∙ h.left_len;
      keeps = passed_to _ (needs_in c.args.rows.now) (λ t. get_or s.states.items t New)
          (λ t. get_or s.left.items t 0) _ s.path.items s.order.items c.args.top c.pass_done.result h.keeps c.requires.top.0 (omega (arith, left_is a, c.pass_done.ensures.fewer))
          (λ k up b. ap (λ xs. get_or s.states.items (get_or xs k 0) New) (sym a.row-row.ensures)
          ∙ passed_done s.states.items a.row-row.result.now c.index-left.result.now c.pass_done.result (mark_is i (need_below a) ∙ c.in-Done.is)
          (subst (λ ms. (i : ℕ) → c.pass_done.result ≤ i → i < c.index-left.result.now - 1 → get_or ms (get_or a.row-row.result.now i 0) New ≡ Done) c.deref.ensures.value
          c.pass_done.ensures.done) k up (omega (arith, b, left_is a)))
          (row_passes_to c.args.rows.now s.left.items c.args.top c.pass_done.result (row_in a));
    }

pub returns-in-Done-clause-less : goal.returns-in-Done-clause-less
returns-in-Done-clause-less c =
    let s = c.args.search.now in
    let a = (goal.at.returns-in-Done-clause-less c).After-row-row in
    omega (arith, left_is a, c.pass_done.ensures.fewer, sum_by-set (λ x. x) s.left.items c.args.top c.pass_done.result 0 (row_in a))

-- the search, its path split at its last
abbrev split : After-row-row → Type 0
split c =
    IsSearch (length c.args.rows.now) (needs_in c.args.rows.now) (λ t. get_or c.args.search.now.states.items t New)
    (λ t. get_or c.args.search.now.left.items t 0)
    (take (vec_len c.args.search.now.path - 1) c.args.search.now.path.items ++ c.args.top ∷ []) c.args.search.now.order.items

is_split : (c : After-row-row) → split c
is_split c =
    subst (λ p. IsSearch (length c.args.rows.now) (needs_in c.args.rows.now) (λ t. get_or c.args.search.now.states.items t New)
    (λ t. get_or c.args.search.now.left.items t 0) p c.args.search.now.order.items) c.requires.top.1 c.requires.sound.keeps

pub returns-in-Open-clause-sound : goal.returns-in-Open-clause-sound
returns-in-Open-clause-sound c =
    let s = c.args.search.now in
    let a = (goal.at.returns-in-Open-clause-sound c).After-row-row in
    let i = (goal.at.returns-in-Open-clause-sound c).After-index in
    let unordered = found _ (needs_in c.args.rows.now) (λ t. get_or s.states.items t New) (λ t. get_or s.left.items t 0)
    (take (vec_len s.path - 1) s.path.items) s.order.items c.args.top (need a)
    (is_split a) (need_in a) (need_below a) (mark_is i (need_below a) ∙ c.in-Open.is) in
    gives_up_sound c.args.rows.now s c.give_up.new.search c.args.top c.requires.sound c.requires.top.0 unordered c.give_up.ensures

pub returns-in-Open-clause-less : goal.returns-in-Open-clause-less
returns-in-Open-clause-less c =
    gives_up_less c.args.rows.now c.args.search.now c.give_up.new.search c.args.top c.requires.sound c.requires.top.0 c.give_up.ensures

pub returns-in-Unordered-clause-sound : goal.returns-in-Unordered-clause-sound
returns-in-Unordered-clause-sound c =
    let s = c.args.search.now in
    let a = (goal.at.returns-in-Unordered-clause-sound c).After-row-row in
    let i = (goal.at.returns-in-Unordered-clause-sound c).After-index in
    let unordered = needs_unordered _ (needs_in c.args.rows.now) (λ t. get_or s.states.items t New)
    (λ t. get_or s.left.items t 0) s.path.items s.order.items c.args.top (need a)
    c.requires.sound.keeps (need_in a) (need_below a) (mark_is i (need_below a) ∙ c.in-Unordered.is) in
    gives_up_sound c.args.rows.now s c.give_up-in-Unordered.new.search c.args.top c.requires.sound c.requires.top.0 unordered c.give_up-in-Unordered.ensures

pub returns-in-Unordered-clause-less : goal.returns-in-Unordered-clause-less
returns-in-Unordered-clause-less c =
    gives_up_less c.args.rows.now c.args.search.now c.give_up-in-Unordered.new.search c.args.top c.requires.sound c.requires.top.0 c.give_up-in-Unordered.ensures
