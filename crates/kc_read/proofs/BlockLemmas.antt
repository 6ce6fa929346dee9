-- The blocks that are open after a list of lines, one line after another.
use Rattle.std.proofs.{Common.{Bool, List, None, Option, Some, [], ap, append_assoc, arith, cond, false, filter, is_some, length, map, nat_le, option_map, refl, slice_get, suc, sym, true, zero, ℕ, ◌&&◌, ◌++◌, ◌-◌, ◌∙◌, ◌∷◌, ◌≡◌}, lemmas.{Bool.Decides.nat_tests, List.Elements.filter_map-append}}
use Rattle.std.specs.List.{filter_map}
use Rattle.kc_language.specs.{Expansion.{Bracket, Closes, IsUnclosed, NoBracket, Opens, bracket, bracket_at, last_of, numbers, open_block_indices, open_blocks, opened, stays_open}, Statements.{Located, Named, statements}, declared.statements.Block.Block}
use Rattle.kc_entries.specs.PartsOfExpansion.{is_open, stays_after}
use Rattle.kc_read.specs.Progress.{Opener, located_blocks, open_block_of, open_blocks_after}
use Rattle.kc_entries.proofs.ListLemmas.{but_last, but_last-append, but_last-take, filter-map, filter_map-map, last_of-append, last_of-map, map-filter_map, numbers_front}

-- how many closers close what was opened before
abbrev unmatched_with : Bracket → ℕ → ℕ
unmatched_with (Opens b) u = u - 1
unmatched_with Closes u = suc u
unmatched_with NoBracket u = u

abbrev unmatched : List Named → ℕ
unmatched [] = 0
unmatched (s ∷ ss) = unmatched_with (bracket s) (unmatched ss)

stays_with : (b : Bracket) (d : ℕ) (ss : List Named) → ((e : ℕ) → stays_open e ss ≡ nat_le (unmatched ss) e) →
    stays_after b d ss ≡ nat_le (unmatched_with b (unmatched ss)) d
stays_with (Opens b) zero ss h = let e = h 1 in rw e (grind (arith, nat_tests))
stays_with (Opens b) (suc d) ss h = let e = h (suc (suc d)) in rw e (grind (arith, nat_tests))
stays_with Closes zero ss h = grind (arith, nat_tests)
stays_with Closes (suc d) ss h = let e = h d in rw e (grind (arith, nat_tests))
stays_with NoBracket zero ss h = h zero
stays_with NoBracket (suc d) ss h = h (suc d)

stays_unmatched : (ss : List Named) (d : ℕ) → stays_open d ss ≡ nat_le (unmatched ss) d
stays_unmatched [] d = grind (arith, nat_tests)
stays_unmatched (s ∷ ss) d = stays_with (bracket s) d ss (stays_unmatched ss)

-- The open blocks, read from the front.
abbrev here : {A : Type 0} → Bracket → (Block → A) → ℕ → List A
here (Opens b) make zero = make b ∷ []
here (Opens b) make (suc u) = []
here Closes make u = []
here NoBracket make u = []

abbrev Place : Type 0
Place = List ℕ × ℕ

abbrev place : Located Named → Place
place l = (l.file, l.line)

abbrev opener : Place → Block → Opener
opener p b = record { block = b; file = p.0; line = p.1 }

abbrev pub opens : List (Located Named) → List Opener
opens [] = []
opens (l ∷ ls) = here (bracket l.statement) (opener (place l)) (unmatched (statements ls)) ++ opens ls

head_place : (b : Bracket) (ss : List Named) → cond (is_some (opened b) && stays_open 0 ss) (zero ∷ []) [] ≡ here b (λ b. zero) (unmatched ss)
head_place (Opens b) ss = ap (λ t. cond t (zero ∷ []) []) (stays_unmatched ss 0) ∙ by (unmatched ss)
  where
    by : (u : ℕ) → cond (nat_le u 0) (zero ∷ []) [] ≡ here (Opens b) (λ b. zero) u
    by zero = refl
    by (suc u) = let e : nat_le (suc u) 0 ≡ false = grind (arith, nat_tests) in rw e refl
head_place Closes ss = refl
head_place NoBracket ss = refl

head_first : {A : Type 0} (t : Bool) (x : A) (xs : List A) → cond t (x ∷ xs) xs ≡ cond t (x ∷ []) [] ++ xs
head_first true x xs = refl
head_first false x xs = refl

places_front : (s : Named) (ss : List Named) → open_block_indices (s ∷ ss) ≡ here (bracket s) (λ b. zero) (unmatched ss) ++ map suc (open_block_indices ss)
places_front s ss =
    ap (filter (is_open (s ∷ ss))) (numbers_front (length ss))
    ∙ ap (λ xs. cond (is_open (s ∷ ss) zero) (zero ∷ xs) xs) (filter-map (is_open (s ∷ ss)) suc (numbers (length ss)))
    ∙ head_first (is_open (s ∷ ss) zero) zero (map suc (open_block_indices ss))
    ∙ ap (λ xs. xs ++ map suc (open_block_indices ss)) (head_place (bracket s) ss)

located_blocks_front : (l : Located Named) (ls : List (Located Named)) → located_blocks (l ∷ ls) ≡ here (bracket l.statement) (opener (place l)) (unmatched (statements ls)) ++ located_blocks ls
located_blocks_front l ls =
    ap (filter_map (λ j. open_block_of (slice_get (l ∷ ls) j))) (places_front l.statement (statements ls))
    ∙ filter_map-append (λ j. open_block_of (slice_get (l ∷ ls) j)) (here (bracket l.statement) (λ b. zero) (unmatched (statements ls))) (map suc (open_block_indices (statements ls)))
    ∙ ap (λ xs. filter_map (λ j. open_block_of (slice_get (l ∷ ls) j)) (here (bracket l.statement) (λ b. zero) (unmatched (statements ls))) ++ xs)
    (filter_map-map (λ j. open_block_of (slice_get (l ∷ ls) j)) suc (open_block_indices (statements ls)))
    ∙ ap (λ xs. xs ++ located_blocks ls) (by (bracket l.statement) (unmatched (statements ls)) refl)
  where
    by : (b : Bracket) (u : ℕ) → bracket l.statement ≡ b → filter_map (λ j. open_block_of (slice_get (l ∷ ls) j)) (here b (λ b. zero) u) ≡ here b (opener (place l)) u
    by (Opens b) zero e = rw e refl
    by (Opens b) (suc u) e = refl
    by Closes u e = refl
    by NoBracket u e = refl

pub located_blocks-opens : (ls : List (Located Named)) → located_blocks ls ≡ opens ls
located_blocks-opens [] = refl
located_blocks-opens (l ∷ ls) = located_blocks_front l ls ∙ ap (λ xs. here (bracket l.statement) (opener (place l)) (unmatched (statements ls)) ++ xs) (located_blocks-opens ls)

-- One more line at the end.
abbrev more_unmatched : List Opener → ℕ → ℕ
more_unmatched [] u = suc u
more_unmatched (o ∷ os) u = u

abbrev unmatched_after : Bracket → List Opener → ℕ → ℕ
unmatched_after (Opens b) os u = u
unmatched_after Closes os u = more_unmatched os u
unmatched_after NoBracket os u = u

abbrev opens_after : Bracket → Place → List Opener → List Opener
opens_after (Opens b) n os = os ++ opener n b ∷ []
opens_after Closes n os = but_last os
opens_after NoBracket n os = os

unmatched_step : (b : Bracket) (n : Place) (e : Bracket) (os : List Opener) (u : ℕ) → unmatched_with b (unmatched_after e os u) ≡ unmatched_after e (here b (opener n) u ++ os) (unmatched_with b u)
unmatched_step b n (Opens x) os u = refl
unmatched_step b n NoBracket os u = refl
unmatched_step (Opens x) n Closes [] zero = refl
unmatched_step (Opens x) n Closes [] (suc u) = omega arith
unmatched_step (Opens x) n Closes (o ∷ os) zero = refl
unmatched_step (Opens x) n Closes (o ∷ os) (suc u) = refl
unmatched_step Closes n Closes [] u = refl
unmatched_step Closes n Closes (o ∷ os) u = refl
unmatched_step NoBracket n Closes [] u = refl
unmatched_step NoBracket n Closes (o ∷ os) u = refl

opens_step : (b : Bracket) (n : Place) (e : Bracket) (m : Place) (os : List Opener) (u : ℕ) → here b (opener n) (unmatched_after e os u) ++ opens_after e m os ≡ opens_after e m (here b (opener n) u ++ os)
opens_step b n (Opens x) m os u = sym (append_assoc (here b (opener n) u) os (opener m x ∷ []))
opens_step b n NoBracket m os u = refl
opens_step b n Closes m (o ∷ os) u = sym (but_last-append (here b (opener n) u) o os)
opens_step (Opens x) n Closes m [] zero = refl
opens_step (Opens x) n Closes m [] (suc u) = refl
opens_step Closes n Closes m [] u = refl
opens_step NoBracket n Closes m [] u = refl

unmatched_last : (e : Bracket) → unmatched_with e 0 ≡ unmatched_after e [] 0
unmatched_last (Opens b) = refl
unmatched_last Closes = refl
unmatched_last NoBracket = refl

unmatched_push : (ls : List (Located Named)) (l : Located Named) → unmatched (statements (ls ++ l ∷ [])) ≡ unmatched_after (bracket l.statement) (opens ls) (unmatched (statements ls))
unmatched_push [] l = unmatched_last (bracket l.statement)
unmatched_push (k ∷ ls) l =
    ap (unmatched_with (bracket k.statement)) (unmatched_push ls l)
    ∙ unmatched_step (bracket k.statement) (place k) (bracket l.statement) (opens ls) (unmatched (statements ls))

opens_last : (e : Bracket) (m : Place) → here e (opener m) 0 ++ [] ≡ opens_after e m []
opens_last (Opens b) m = refl
opens_last Closes m = refl
opens_last NoBracket m = refl

opens_push : (ls : List (Located Named)) (l : Located Named) → opens (ls ++ l ∷ []) ≡ opens_after (bracket l.statement) (place l) (opens ls)
opens_push [] l = opens_last (bracket l.statement) (place l)
opens_push (k ∷ ls) l =
    ap (λ u. here (bracket k.statement) (opener (place k)) u ++ opens (ls ++ l ∷ [])) (unmatched_push ls l)
    ∙ ap (λ os. here (bracket k.statement) (opener (place k)) (unmatched_after (bracket l.statement) (opens ls) (unmatched (statements ls))) ++ os) (opens_push ls l)
    ∙ opens_step (bracket k.statement) (place k) (bracket l.statement) (place l) (opens ls) (unmatched (statements ls))

after_same : (e : Bracket) (n : Place) (os : List Opener) → opens_after e n os ≡ open_blocks_after e n.0 n.1 os
after_same (Opens b) n os = refl
after_same Closes n os = sym (but_last-take os)
after_same NoBracket n os = refl

pub located_blocks_push : (ls : List (Located Named)) (l : Located Named) → located_blocks (ls ++ l ∷ []) ≡ open_blocks_after (bracket l.statement) l.file l.line (located_blocks ls)
located_blocks_push ls l =
    located_blocks-opens (ls ++ l ∷ []) ∙ opens_push ls l
    ∙ after_same (bracket l.statement) (place l) (opens ls)
    ∙ ap (open_blocks_after (bracket l.statement) l.file l.line) (sym (located_blocks-opens ls))

-- the open blocks are those of the openers
same_bracket : (ls : List (Located Named)) (j : ℕ) → option_map (λ o. o.block) (open_block_of (slice_get ls j)) ≡ opened (bracket_at (statements ls) j)
same_bracket [] j = refl
same_bracket (l ∷ ls) zero = by (opened (bracket l.statement))
  where
    by : (o : Option Block) → option_map (λ o. o.block) (option_map (opener (place l)) o) ≡ o
    by None = refl
    by (Some b) = refl
same_bracket (l ∷ ls) (suc j) = same_bracket ls j

pub blocks_of_located : (ls : List (Located Named)) → map (λ o. o.block) (located_blocks ls) ≡ open_blocks (statements ls)
blocks_of_located ls = map-filter_map (λ o. o.block) (λ j. open_block_of (slice_get ls j)) (λ j. opened (bracket_at (statements ls) j)) (same_bracket ls) (open_block_indices (statements ls))

-- the innermost open block
here_both : (b : Bracket) (n : Place) (u : ℕ) → here b (opener n) u ≡ [] → here b (λ b. zero) u ≡ []
here_both (Opens b) n zero e = absurd cc
here_both (Opens b) n (suc u) e = refl
here_both Closes n u e = refl
here_both NoBracket n u e = refl

pub first_nil : {A : Type 0} (xs ys : List A) → xs ++ ys ≡ [] → xs ≡ []
first_nil [] ys e = refl
first_nil (x ∷ xs) ys e = absurd cc

pub second_nil : {A : Type 0} (xs ys : List A) → xs ++ ys ≡ [] → ys ≡ []
second_nil [] ys e = e
second_nil (x ∷ xs) ys e = absurd cc

pub no_places : (ls : List (Located Named)) → opens ls ≡ [] → open_block_indices (statements ls) ≡ []
no_places [] e = refl
no_places (l ∷ ls) e =
    let b = bracket l.statement in
    let u = unmatched (statements ls) in
    let h : here b (λ b. zero) u ≡ [] = here_both b (place l) u (first_nil (here b (opener (place l)) u) (opens ls) e) in
    let t : open_block_indices (statements ls) ≡ [] = no_places ls (second_nil (here b (opener (place l)) u) (opens ls) e) in
    places_front l.statement (statements ls) ∙ rw (h, t) refl

-- the line that opened it
abbrev pub Opened : List (Located Named) → Opener → Type 0
Opened ls o = (l : Located Named) × IsUnclosed ls l × (o.file ≡ l.file) × (o.line ≡ l.line)

unclosed_here : (b : Bracket) (u : ℕ) (l : Located Named) (ls : List (Located Named)) (o : Opener) → bracket l.statement ≡ b →
    unmatched (statements ls) ≡ u → opens ls ≡ [] → last_of (here b (opener (place l)) u ++ opens ls) ≡ Some o → Opened (l ∷ ls) o
unclosed_here (Opens b) zero l ls o e f none last =
    let h : Some (opener (place l) b) ≡ Some o = rw none at last in
    let same : opener (place l) b ≡ o = cc in (
      l,
      (zero, ap last_of (places_front l.statement (statements ls)) ∙ rw (e, f, no_places ls none) refl, refl),
      ap (λ x. x.file) (sym same),
      ap (λ x. x.line) (sym same),
    )
unclosed_here (Opens b) (suc u) l ls o e f none last = absurd (let h : None ≡ Some o = rw none at last in cc)
unclosed_here Closes u l ls o e f none last = absurd (let h : None ≡ Some o = rw none at last in cc)
unclosed_here NoBracket u l ls o e f none last = absurd (let h : None ≡ Some o = rw none at last in cc)

last_tail : {A : Type 0} (xs : List A) (y : A) (ys : List A) → last_of (xs ++ y ∷ ys) ≡ last_of (y ∷ ys)
last_tail [] y ys = refl
last_tail (x ∷ []) y ys = refl
last_tail (x ∷ z ∷ zs) y ys = last_tail (z ∷ zs) y ys

unclosed_later : (l : Located Named) (ls : List (Located Named)) (o : Opener) → Opened ls o → Opened (l ∷ ls) o
unclosed_later l ls o (k, r, file, line) = (
  k,
  (
    suc r.0,
    ap last_of (places_front l.statement (statements ls))
        ∙ last_of-append (here (bracket l.statement) (λ b. zero) (unmatched (statements ls))) (map suc (open_block_indices (statements ls))) (suc r.0)
        (last_of-map suc (open_block_indices (statements ls)) ∙ ap (option_map suc) r.1),
    r.2,
  ),
  file,
  line,
)

unclosed_at : (ls : List (Located Named)) (o : Opener) → last_of (opens ls) ≡ Some o → Opened ls o
unclosed_at [] o e = absurd cc
unclosed_at (l ∷ ls) o e = by (opens ls) refl (unclosed_at ls o)
  where
    by : (os : List Opener) → opens ls ≡ os → (last_of (opens ls) ≡ Some o → Opened ls o) → Opened (l ∷ ls) o
    by [] f later = unclosed_here (bracket l.statement) (unmatched (statements ls)) l ls o refl refl f e
    by (x ∷ xs) f later =
        let h : last_of (x ∷ xs) ≡ Some o = sym (last_tail (here (bracket l.statement) (opener (place l)) (unmatched (statements ls))) x xs)
        ∙ ap (λ os. last_of (here (bracket l.statement) (opener (place l)) (unmatched (statements ls)) ++ os)) (sym f) ∙ e in
        unclosed_later l ls o (later (ap last_of f ∙ h))

pub unclosed : (ls : List (Located Named)) (o : Opener) → last_of (located_blocks ls) ≡ Some o → Opened ls o
unclosed ls o e = unclosed_at ls o (ap last_of (sym (located_blocks-opens ls)) ∙ e)
