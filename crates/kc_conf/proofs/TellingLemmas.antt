-- What a device told at first, and still tells.
use Rattle.std.proofs.Common.{◌≡◌, ℕ, List, [], ◌++◌, refl, sym, ap, subst, ◌∙◌, None, Some, true}
use Rattle.kc_io.specs.Log.{keeps_files, Event, Journal, Log, Leads, Tells, held}
use Rattle.kc_io.proofs.LogLemmas.{held_stays, leads_both, leads_nothing}
use Rattle.kc_io.specs.Inputs.{still_told}

-- what was done and said, and then more
pub Leads-then : {a b : List Event} {s t : List ℕ} {old mid new : Log} → Leads a s old mid → Leads b t mid new → Leads (a ++ b) (s ++ t) old new
Leads-then h w = leads_both _ _ _ _ _ _ _ h w

-- the same events and text, written otherwise
pub Leads-as : {a b : List Event} {s t : List ℕ} {old new : Log} → a ≡ b → s ≡ t → Leads a s old new → Leads b t old new
Leads-as {a = a} {t = t} {old = old} {new = new} is says h = subst (λ events. Leads events t old new) is (subst (λ text. Leads a text old new) says h)

-- where it tells in the end, it is what it told at first
still-there : (old new : Log) (after : Journal) → new ≡ Some after → still_told old new ≡ old
still-there old None after e = absurd (let clash : None ≡ Some after = e in cc)
still-there old (Some last) after e = refl

pub still-known : (old new : Log) (journal : Journal) → still_told old new ≡ Some journal → (old ≡ Some journal) × ((after : Journal) × (new ≡ Some after))
still-known old None journal e = absurd (let clash : None ≡ Some journal = e in cc)
still-known old (Some last) journal e = (e, (last, refl))

-- from a silent device nothing follows
pub Leads-silent : (events : List Event) (text : List ℕ) (old : Log) → Leads events text old None
Leads-silent events text old = record { told = λ after e. absurd (let clash : None ≡ Some after = e in cc) }

-- what holds where it tells at both ends
pub Tells-still : (P : Journal → Type 0) (old new : Log) → ((journal after : Journal) → old ≡ Some journal → new ≡ Some after → P journal) → Tells (still_told old new) P
Tells-still P old new f = λ journal e. let (was, (after, is)) = still-known old new journal e in f journal after was is

-- what it told before more was done, it told at first
pub Tells-later : {b : List Event} {t : List ℕ} {mid new : Log} (P : Journal → Type 0) (old : Log) → Leads b t mid new → Tells (still_told old mid) P → Tells (still_told old new) P
Tells-later {mid = mid} {new = new} P old w tells =
    Tells-still P old new (λ journal after e e'. let m = w.told after e' in tells journal (still-there old mid m.0 m.1 ∙ e))

-- ---- what files hold

-- a journal that is told later has files that held the same when the other was told
pub record Recalls (told later : Log) : Type 0 where
  pub recalls : (journal : Journal) → later ≡ Some journal → (first : Journal) × (told ≡ Some first) × ((name : List ℕ) → held first name ≡ held journal name)

-- it depends on what files hold alone
abbrev pub IsOfFiles : (Journal → Type 0) → Type 0
IsOfFiles P = (j k : Journal) → ((name : List ℕ) → held j name ≡ held k name) → P j → P k

pub Tells-recalled : {told later : Log} (P : Journal → Type 0) → IsOfFiles P → Recalls told later → Tells told P → Tells later P
Tells-recalled P of_files r tells = λ journal e. let (first, is, same) = r.recalls journal e in of_files first journal same (tells first is)

-- what is told between events, the first of which change no file, is what was told at first
pub Recalls-between : {a b c : List Event} {s t u : List ℕ} {start old mid new : Log} → keeps_files a ≡ true → Leads a s start old → Leads b t old mid → Leads c u mid new → Recalls (still_told old mid) (still_told start new)
Recalls-between {a = a} {s = s} {start = start} {old = old} {mid = mid} {new = new} keeps h r w = record {
  recalls = λ journal e.
      let (was, (after, is)) = still-known start new journal e in
      let m = w.told after is in
      let o = r.told m.0 m.1 in
      let first = h.told o.0 o.1 in
      let same : first.0 ≡ journal = (let both : Some first.0 ≡ Some journal = sym first.1 ∙ was in cc) in (
        o.0,
        still-there old mid m.0 m.1 ∙ o.1,
        λ name. ap (λ (j : Journal). held j name) (sym first.2) ∙ held_stays a s first.0 name keeps ∙ ap (λ (j : Journal). held j name) same,
      );
}

pub Recalls-first : {a b : List Event} {s t : List ℕ} {old mid new : Log} → keeps_files a ≡ true → Leads a s old mid → Leads b t mid new → Recalls (still_told mid new) (still_told old new)
Recalls-first keeps h w = Recalls-between keeps h w (leads_nothing _)

pub Recalls-later : {a b : List Event} {s t : List ℕ} {old mid new : Log} → Leads a s old mid → Leads b t mid new → Recalls (still_told old mid) (still_told old new)
Recalls-later r w = Recalls-between refl (leads_nothing _) r w
