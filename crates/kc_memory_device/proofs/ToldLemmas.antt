-- What a device tells of its files.
use Rattle.std.proofs.Common.{Bool, Bor, Err, Global, IfOk, List, None, Ok, Option, Result, Some, Vec, [], ap, if◌then◌else◌, is_some, option_map, refl, unwrap_or, ℕ, ◌∙◌, ◌≡◌}
use Rattle.kc_io.specs.{Log.{Journal, Log, Tells, held, is_held}, PartsOfLog.contents}
use Rattle.kc_memory_device.specs.{Recorded.{events_of, first_held, held_after, is_held_after, told}, declared.record.Record.Record}

pub told_is : (files : List ℕ → Option (List ℕ)) (records : Option (Vec Record Global)) (r : Vec Record Global) (said : List ℕ) (journal : Journal) → records ≡ Some r → told files records said ≡ Some journal → record { files = files; events = events_of r.items; said = said } ≡ journal
told_is files None r said journal was known = cc
told_is files (Some x) r said journal was known = cc

pub held_told : (first : List (Bor (List ℕ) × Bor (List ℕ))) (records : Option (Vec Record Global)) (r : Vec Record Global) (said name : List ℕ) → records ≡ Some r → Tells (told (first_held first) records said) (λ journal. held_after first r.items name ≡ held journal name)
held_told first records r said name was = λ journal known. ap (λ (j : Journal). held j name) (told_is (first_held first) records r said journal was known)

pub is_held_told : (first : List (Bor (List ℕ) × Bor (List ℕ))) (records : Option (Vec Record Global)) (r : Vec Record Global) (said name bytes : List ℕ) → records ≡ Some r → Tells (told (first_held first) records said) (λ journal. is_held_after first r.items name bytes ≡ is_held journal name bytes)
is_held_told first records r said name bytes was = λ journal known. ap (λ (j : Journal). is_held j name bytes) (told_is (first_held first) records r said journal was known)

pub held_ok : {E : Type 0} (answer : Result (Option (Vec ℕ Global)) E) (found : Option (List ℕ)) (log : Log) (name : List ℕ) → IfOk answer (λ bytes. option_map (λ b. b.items) bytes ≡ found) → Tells log (λ journal. found ≡ held journal name) → IfOk answer (λ bytes. Tells log (λ journal. option_map (λ b. b.items) bytes ≡ held journal name))
held_ok (Ok bytes) found log name h told = λ journal known. h ∙ told journal known
held_ok (Err e) found log name h told = tt

-- a file that was opened gives what is held
pub opened_is : (files : List ℕ → Option (List ℕ)) (records : Option (Vec Record Global)) (said name bytes : List ℕ) (is_told : Bool) → is_told ≡ is_some records → Tells (told files records said) (λ journal. Some bytes ≡ held journal name) → (if is_told then Some bytes else None) ≡ contents (told files records said) name
opened_is files None said name bytes is_told e h = rw e refl
opened_is files (Some r) said name bytes is_told e h =
    rw e (ap (λ (found : Option (List ℕ)). Some (unwrap_or found [])) (h (record { files = files; events = events_of r.items; said = said }) refl))
