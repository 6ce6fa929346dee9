-- How parts of a script follow one another.
use Rattle.std.proofs.{Common.{Bor, Err, List, Ok, Result, [], ap, append_assoc, drop, get_or, length, refl, subst, suc, sym, take, ℕ, ◌++◌, ◌+◌, ◌<◌, ◌∙◌, ◌∷◌, ◌≡◌, ◌≤◌}, Math.Seq.{drop-cons, take-add}, lemmas.{Grind.flat_map-append, List.{append-nil, map-append, take-append-drop, take_all}}}
use Rattle.std.specs.List.{flat_map}
use Rattle.kc_io.specs.{Delivered.{Went, failure_of}, Delivery.{NamedText, StopsBefore, put}, Log.{Event, Leads, Log, did, each_byte, failed}, declared.{device.{Action.TheVariants.{Close, Create, Write}, Fault.Fault, Site.Site}, steps.Failure.Failure}}
use Rattle.kc_io.proofs.LogLemmas.{leads_as, leads_both}

-- all of a part was done
pub went_all : (script : List Event) (old new : Log) → Leads script [] old new → Went script old new (Ok tt)
went_all script old new h = record {
  done = script;
  left = [];
  all = append-nil script;
  stops = tt;
  log = leads_as _ _ [] old new (sym (append-nil script)) h;
}

-- and where it went well, it was
pub none_left : (left : List Event) → StopsBefore left (Ok tt) → left ≡ []
none_left [] h = refl
none_left (e ∷ left) h = absurd h

pub went_whole : (script : List Event) (old new : Log) → Went script old new (Ok tt) → Leads script [] old new
went_whole script old new w =
    let e = none_left w.left w.stops in
    leads_as _ _ [] old new (ap (λ (l : List Event). w.done ++ l) (sym e) ∙ w.all) w.log

-- a part after what was done
pub went_after : (a b : List Event) (old mid new : Log) (r : Result (Unit {0}) Failure) → Leads a [] old mid → Went b mid new r → Went (a ++ b) old new r
went_after a b old mid new r h w = record {
  done = a ++ w.done;
  left = w.left;
  all = append_assoc a w.done w.left ∙ ap (λ (l : List Event). a ++ l) w.all;
  stops = w.stops;
  log = leads_as _ _ [] old new (sym (append_assoc a w.done (failure_of r))) (leads_both _ _ [] [] old mid new h w.log);
}

-- a part that stopped, and what would have come after it
pub went_stopped : (a b : List Event) (old new : Log) (f : Failure) → Went a old new (Err f) → Went (a ++ b) old new (Err f)
went_stopped a b old new f w = record {
  done = w.done;
  left = w.left ++ b;
  all = sym (append_assoc w.done w.left b) ∙ ap (λ (l : List Event). l ++ b) w.all;
  stops = more w.left w.stops;
  log = w.log;
}
  where
    more : (left : List Event) → StopsBefore left (Err f) → StopsBefore (left ++ b) (Err f)
    more [] h = absurd h
    more (e ∷ left) h = h

-- the items of a list one after another: one of them failed
pub items_stopped : {X : Type 0} (f : X → List Event) (xs : List X) (i : ℕ) (x : X) (old mid new : Log) (e : Failure) → i < length xs → x ≡ get_or xs i x → Leads (flat_map f (take i xs)) [] old mid → Went (f x) mid new (Err e) → Went (flat_map f xs) old new (Err e)
items_stopped f xs i x old mid new e small is h w =
    let split : flat_map f (take i xs) ++ (f x ++ flat_map f (drop (suc i) xs)) ≡ flat_map f xs =
    sym (ap (flat_map f) (sym (take-append-drop i xs)) ∙ ap (λ (l : List _). flat_map f (take i xs ++ l)) (drop-cons xs i x small ∙ ap (λ (y : _). y ∷ drop (suc i) xs) (sym is)) ∙ flat_map-append f (take i xs) (x ∷ drop (suc i) xs)) in
    subst (λ (l : List Event). Went l old new (Err e)) split (went_after _ _ old mid new (Err e) h (went_stopped _ _ mid new e w))

-- all items were done
pub items_all : {X : Type 0} (f : X → List Event) (xs : List X) (n : ℕ) (old new : Log) → length xs ≤ n → Leads (flat_map f (take n xs)) [] old new → Went (flat_map f xs) old new (Ok tt)
items_all f xs n old new h e = went_all _ old new (leads_as _ _ [] old new (ap (flat_map f) (take_all n xs h)) e)

-- the bytes of a text: some more were written
pub bytes_more : (site : Site) (name bytes : List ℕ) (n count : ℕ) (old mid new : Log) → Leads (each_byte (Write site) name (take n bytes)) [] old mid → Leads (each_byte (Write site) name (take count (drop n bytes))) [] mid new → Leads (each_byte (Write site) name (take (n + count) bytes)) [] old new
bytes_more site name bytes n count old mid new h w =
    leads_as _ _ [] old new
    (sym (map-append _ (take n bytes) (take count (drop n bytes))) ∙ ap (each_byte (Write site) name) (sym (take-add n count bytes)))
    (leads_both _ _ [] [] old mid new h w)

-- or the next was refused
pub bytes_stopped : (site : Site) (name : Bor (List ℕ)) (bytes : List ℕ) (n : ℕ) (fault : Fault) (old mid new : Log) → n < length bytes → Leads (each_byte (Write site) name.now (take n bytes)) [] old mid → Leads (failed (Write site) name.now fault) [] mid new → Went (each_byte (Write site) name.now bytes) old new (Err (record { action = Write site; name = name; fault = fault }))
bytes_stopped site name bytes n fault old mid new small h w = record {
  done = each_byte (Write site) name.now (take n bytes);
  left = each_byte (Write site) name.now (drop n bytes);
  all = sym (map-append _ (take n bytes) (drop n bytes)) ∙ ap (each_byte (Write site) name.now) (take-append-drop n bytes);
  stops = subst (λ (l : List ℕ). StopsBefore (each_byte (Write site) name.now l) (Err (record { action = Write site; name = name; fault = fault }))) (sym (drop-cons bytes n 0 small)) (refl, refl);
  log = leads_both _ _ [] [] old mid new h w;
}

-- a file: it was not made
pub not_made : (site : Site) (text : NamedText) (old new : Log) (f : Failure) → Went (did (Create site) text.name) old new (Err f) → Went (put site text) old new (Err f)
not_made site text old new f w = went_stopped _ _ old new f w

-- it was made, and not written whole
pub not_whole : (site : Site) (text : NamedText) (bytes : List ℕ) (old mid new : Log) (f : Failure) → bytes ≡ text.bytes → Went (did (Create site) text.name) old mid (Ok tt) → Went (each_byte (Write site) text.name bytes) mid new (Err f) → Went (put site text) old new (Err f)
not_whole site text bytes old mid new f b made w =
    went_after (did (Create site) text.name) _ old mid new (Err f) (went_whole _ old mid made) (went_stopped _ _ mid new f (rw b at w))

-- it was made and written
pub written : (site : Site) (text : NamedText) (bytes : List ℕ) (old mid mid' new : Log) (r : Result (Unit {0}) Failure) → bytes ≡ text.bytes → Went (did (Create site) text.name) old mid (Ok tt) → Went (each_byte (Write site) text.name bytes) mid mid' (Ok tt) → Went (did (Close site) text.name) mid' new r → Went (put site text) old new r
written site text bytes old mid mid' new r b made whole w =
    went_after (did (Create site) text.name) _ old mid new r (went_whole _ old mid made)
    (went_after _ _ mid mid' new r (went_whole _ mid mid' (rw b at whole)) w)
