-- What is to come of bytes, as calls go by.
use Rattle.std.proofs.{Common.{Bool, Bor, List, MatchOption, None, Option, Some, [], ap, arith, bytes_eq, false, fold, if◌then◌else◌, inl, inr, length, nat_eq, not, option_map, refl, suc, sym, take, true, ℕ, ◌&&◌, ◌++◌, ◌==◌, ◌∙◌, ◌∷◌, ◌≡◌, ◌≢◌, ◌≤◌}, lemmas.{Bool.Decides.{eqb_tells, nat_tests}, List.take_all}}
use Rattle.std.specs.Option.{option_map_or}
use Rattle.kc_io.specs.{Log.{Spot, acted, after}, declared.device.{Action.{Action, TheVariants.{Clear, Close, Create, Miss, Move, Open, Read, Report, Write}}, Site.TheVariants.{Beside, Place}}}
use Rattle.kc_memory_device.specs.{Recorded.{events_of, first_held, held_after, is_held_after}, Sights.bytes_of, Stripped.{Seen, acted_seen, seen_at, stripped, stripped_of, to_come}, declared.record.Record.Record}

pub stripped-append : (s p q : List ℕ) → stripped s (p ++ q) ≡ stripped_of (stripped s p) q
stripped-append s [] q = refl
stripped-append [] (x ∷ p) q = refl
stripped-append (b ∷ s) (x ∷ p) q = cases (stripped-append s p q) (nat_eq x b)
  where
    cases : stripped s (p ++ q) ≡ stripped_of (stripped s p) q → (c : Bool) → (if c then stripped s (p ++ q) else None) ≡ stripped_of (if c then stripped s p else None) q
    cases more true = more
    cases more false = refl

pub stripped_whole : (s p rest : List ℕ) → s ≡ p ++ rest → stripped s p ≡ Some rest
stripped_whole s [] rest e = ap Some e
stripped_whole [] (x ∷ p) rest e = cc
stripped_whole (b ∷ s) (x ∷ p) rest e = elim (eqb_tells x b) [
  | inl h ↦ rw h.0 (stripped_whole s p rest cc)
  | inr h ↦ absurd (h.1 cc)
]

pub stripped_none : (s p : List ℕ) → ((rest : List ℕ) → s ≢ p ++ rest) → stripped s p ≡ None
stripped_none s [] h = absurd (h s refl)
stripped_none [] (x ∷ p) h = refl
stripped_none (b ∷ s) (x ∷ p) h = elim (eqb_tells x b) [
  | inl e ↦ rw e.0 (stripped_none s p (λ rest q. h rest (cc (e.1, q))))
  | inr e ↦ rw e.0 refl
]

-- what `strip_prefix` answers
pub stripped_is : (s p : List ℕ) (r : Option (Bor (List ℕ))) → MatchOption r ((rest : List ℕ) → s ≢ p ++ rest) (λ x. s ≡ p ++ x.now) → bytes_of r ≡ stripped s p
stripped_is s p (Some x) h = sym (stripped_whole s p x.now h)
stripped_is s p None h = sym (stripped_none s p h)

-- an action, as it is seen
pub acted_at : (bytes : List ℕ) (action : Action) (w : List ℕ) (spot : Spot) → seen_at bytes (acted action w spot) ≡ acted_seen bytes action w (seen_at bytes spot)
acted_at bytes (Create Place) w spot = refl
acted_at bytes (Create Beside) w spot = refl
acted_at bytes (Write Place) w spot = ap (λ (h : Option (List ℕ)). record { held = h; beside = stripped bytes spot.beside }) (grown spot.held)
  where
    grown : (h : Option (List ℕ)) → to_come bytes (option_map (λ old. old ++ w) h) ≡ stripped_of (to_come bytes h) w
    grown None = refl
    grown (Some old) = stripped-append bytes old w
acted_at bytes (Write Beside) w spot = ap (λ (h : Option (List ℕ)). record { held = to_come bytes spot.held; beside = h }) (stripped-append bytes spot.beside w)
acted_at bytes Open w spot = refl
acted_at bytes Miss w spot = refl
acted_at bytes Read w spot = refl
acted_at bytes (Close site) w spot = refl
acted_at bytes Move w spot = refl
acted_at bytes Clear w spot = refl
acted_at bytes Report w spot = refl

-- nothing is to come of bytes that are there
abbrev pub is_nil : List ℕ → Bool
is_nil [] = true
is_nil (_ ∷ _) = false

pub there : (found bytes : List ℕ) → bytes_eq found bytes ≡ option_map_or is_nil (stripped bytes found) false
there [] [] = refl
there [] (b ∷ bytes) = refl
there (x ∷ found) [] = refl
there (x ∷ found) (b ∷ bytes) = cases (there found bytes) (nat_eq x b)
  where
    cases : bytes_eq found bytes ≡ option_map_or is_nil (stripped bytes found) false → (c : Bool) → (c && bytes_eq found bytes) ≡ option_map_or is_nil (if c then stripped bytes found else None) false
    cases more true = more
    cases more false = refl

pub held_there : (found : Option (List ℕ)) (bytes : List ℕ) → option_map_or (λ f. bytes_eq f bytes) found false ≡ option_map_or is_nil (to_come bytes found) false
held_there None bytes = refl
held_there (Some f) bytes = there f bytes

pub nil_is : (l : List ℕ) → (length l == 0) ≡ is_nil l
nil_is [] = refl
nil_is (x ∷ l) = suc_zero (length l)
  where
    suc_zero : (n : ℕ) → (suc n == 0) ≡ false
    suc_zero n = grind (arith, nat_tests)

pub not_true : (b : Bool) → true ≡ not b → b ≡ false
not_true true h = cc
not_true false h = refl

pub not_false : (b : Bool) → false ≡ not b → b ≡ true
not_false true h = refl
not_false false h = cc

-- the place holds the bytes where nothing of them is to come
pub holds_is : (bytes name : List ℕ) (first : List (Bor (List ℕ) × Bor (List ℕ))) (records : List Record) (n : ℕ) (s : Seen) → length records ≤ n → s ≡ seen_at bytes (fold (after name) (record { held = first_held first name; beside = [] }) (events_of (take n records))) → option_map_or is_nil s.held false ≡ is_held_after first records name bytes
holds_is bytes name first records n s small h =
    let start : Spot = record { held = first_held first name; beside = [] } in
    ap (λ (t : Seen). option_map_or is_nil t.held false) (h ∙ ap (λ (l : List Record). seen_at bytes (fold (after name) start (events_of l))) (take_all n records small))
    ∙ sym (held_there (held_after first records name) bytes)
