-- What places hold after the events of a delivery.
use Rattle.std.proofs.{Common.{Bool, List, None, Option, Some, [], ap, append_assoc, bytes_eq, false, fold, if◌then◌else◌, option_map, refl, sym, true, ℕ, ◌++◌, ◌∙◌, ◌∷◌, ◌≡◌}, lemmas.{Grind.fold-append, List.append-nil}}
use Rattle.std.specs.List.{flat_map}
use Rattle.kc_io.specs.{Delivery.{NamedText, delivery, last_of, moved, put}, Log.{Event, Spot, acted, after, did, each_byte}, declared.{delivery.Manner.{Manner, TheVariants.{InPlace, Replacing}}, device.{Action.TheVariants.{Close, Create, Write}, Site.{Site, TheVariants.{Beside, Place}}}}}

-- bytes that are written at another name, and at this one
abbrev byte : Site → List ℕ → ℕ → Event
byte site n x = record { action = Write site; name = n; bytes = x ∷ []; fault = None }

pub bytes_other : (name n : List ℕ) (site : Site) (bytes : List ℕ) (spot : Spot) → bytes_eq name n ≡ false → fold (after name) spot (each_byte (Write site) n bytes) ≡ spot
bytes_other name n site [] spot e = refl
bytes_other name n site (x ∷ bytes) spot e =
    ap (λ (s : Spot). fold (after name) s (each_byte (Write site) n bytes)) (passed e) ∙ bytes_other name n site bytes spot e
  where
    passed : bytes_eq name n ≡ false → after name spot (byte site n x) ≡ spot
    passed e = rw e refl

one_more : (site : Site) (x : ℕ) (bytes : List ℕ) (spot : Spot) → acted (Write site) bytes (acted (Write site) (x ∷ []) spot) ≡ acted (Write site) (x ∷ bytes) spot
one_more Place x bytes spot = ap (λ (h : Option (List ℕ)). record spot { held = h }) (grown spot.held)
  where
    grown : (h : Option (List ℕ)) → option_map (λ old. old ++ bytes) (option_map (λ old. old ++ x ∷ []) h) ≡ option_map (λ old. old ++ x ∷ bytes) h
    grown None = refl
    grown (Some old) = ap Some (append_assoc old (x ∷ []) bytes)
one_more Beside x bytes spot = ap (λ (l : List ℕ). record spot { beside = l }) (append_assoc spot.beside (x ∷ []) bytes)

no_more : (site : Site) (spot : Spot) → spot ≡ acted (Write site) [] spot
no_more Place spot = ap (λ (h : Option (List ℕ)). record spot { held = h }) (same spot.held)
  where
    same : (h : Option (List ℕ)) → h ≡ option_map (λ old. old ++ []) h
    same None = refl
    same (Some old) = ap Some (sym (append-nil old))
no_more Beside spot = ap (λ (l : List ℕ). record spot { beside = l }) (sym (append-nil spot.beside))

pub bytes_own : (name n : List ℕ) (site : Site) (bytes : List ℕ) (spot : Spot) → bytes_eq name n ≡ true → fold (after name) spot (each_byte (Write site) n bytes) ≡ acted (Write site) bytes spot
bytes_own name n site [] spot e = no_more site spot
bytes_own name n site (x ∷ bytes) spot e =
    ap (λ (s : Spot). fold (after name) s (each_byte (Write site) n bytes)) (own e) ∙ bytes_own name n site bytes (acted (Write site) (x ∷ []) spot) e ∙ one_more site x bytes spot
  where
    own : bytes_eq name n ≡ true → after name spot (byte site n x) ≡ acted (Write site) (x ∷ []) spot
    own e = rw e refl

-- a file that is made at its place
pub put_other : (name : List ℕ) (site : Site) (text : NamedText) (spot : Spot) → bytes_eq name text.name ≡ false → fold (after name) spot (put site text) ≡ spot
put_other name site text spot e =
    ap (λ (s : Spot). fold (after name) s (each_byte (Write site) text.name text.bytes ++ did (Close site) text.name)) (made e)
    ∙ fold-append (after name) spot (each_byte (Write site) text.name text.bytes) _
    ∙ ap (λ (s : Spot). fold (after name) s (did (Close site) text.name)) (bytes_other name _ site text.bytes spot e)
    ∙ closed e
  where
    made : bytes_eq name text.name ≡ false → fold (after name) spot (did (Create site) text.name) ≡ spot
    made e = rw e refl

    closed : bytes_eq name text.name ≡ false → fold (after name) spot (did (Close site) text.name) ≡ spot
    closed e = rw e refl

pub put_own : (name : List ℕ) (text : NamedText) (spot : Spot) → bytes_eq name text.name ≡ true → fold (after name) spot (put Place text) ≡ record spot { held = Some text.bytes }
put_own name text spot e =
    let n = text.name in
    let empty : Spot = record spot { held = Some [] } in
    ap (λ (s : Spot). fold (after name) s (each_byte (Write Place) n text.bytes ++ did (Close Place) n)) (made e)
    ∙ fold-append (after name) empty (each_byte (Write Place) n text.bytes) _
    ∙ ap (λ (s : Spot). fold (after name) s (did (Close Place) n)) (bytes_own name n Place text.bytes empty e)
    ∙ closed e
  where
    made : bytes_eq name text.name ≡ true → fold (after name) spot (did (Create Place) text.name) ≡ record spot { held = Some [] }
    made e = rw e refl

    closed : bytes_eq name text.name ≡ true → fold (after name) (record spot { held = Some text.bytes }) (did (Close Place) text.name) ≡ record spot { held = Some text.bytes }
    closed e = rw e refl

-- files that are made at their places
pub modeless_held : (name : List ℕ) (texts : List NamedText) (spot : Spot) → (fold (after name) spot (flat_map (put Place) texts)).held ≡ last_of name texts spot.held
modeless_held name [] spot = refl
modeless_held name (text ∷ texts) spot =
    ap (λ (s : Spot). s.held) (fold-append (after name) spot (put Place text) (flat_map (put Place) texts))
    ∙ modeless_held name texts (fold (after name) spot (put Place text))
    ∙ ap (last_of name texts) (one (bytes_eq name text.name) refl)
  where
    one : (b : Bool) → bytes_eq name text.name ≡ b → (fold (after name) spot (put Place text)).held ≡ (if b then Some text.bytes else spot.held)
    one true e = ap (λ (s : Spot). s.held) (put_own name text spot e)
    one false e = ap (λ (s : Spot). s.held) (put_other name Place text spot e)

-- beside it
pub put_beside : (name : List ℕ) (text : NamedText) (spot : Spot) → bytes_eq name text.name ≡ true → fold (after name) spot (put Beside text) ≡ record spot { beside = text.bytes }
put_beside name text spot e =
    let n = text.name in
    let empty : Spot = record spot { beside = [] } in
    ap (λ (s : Spot). fold (after name) s (each_byte (Write Beside) n text.bytes ++ did (Close Beside) n)) (made e)
    ∙ fold-append (after name) empty (each_byte (Write Beside) n text.bytes) _
    ∙ ap (λ (s : Spot). fold (after name) s (did (Close Beside) n)) (bytes_own name n Beside text.bytes empty e)
    ∙ closed e
  where
    made : bytes_eq name text.name ≡ true → fold (after name) spot (did (Create Beside) text.name) ≡ record spot { beside = [] }
    made e = rw e refl

    closed : bytes_eq name text.name ≡ true → fold (after name) (record spot { beside = text.bytes }) (did (Close Beside) text.name) ≡ record spot { beside = text.bytes }
    closed e = rw e refl

abbrev pub last_beside : List ℕ → List NamedText → List ℕ → List ℕ
last_beside name [] b = b
last_beside name (text ∷ texts) b = last_beside name texts (if bytes_eq name text.name then text.bytes else b)

abbrev pub is_among : List ℕ → List NamedText → Bool
is_among name [] = false
is_among name (text ∷ texts) = if bytes_eq name text.name then true else is_among name texts

pub beside_held : (name : List ℕ) (texts : List NamedText) (spot : Spot) → fold (after name) spot (flat_map (put Beside) texts) ≡ record spot { beside = last_beside name texts spot.beside }
beside_held name [] spot = refl
beside_held name (text ∷ texts) spot =
    fold-append (after name) spot (put Beside text) (flat_map (put Beside) texts)
    ∙ ap (λ (s : Spot). fold (after name) s (flat_map (put Beside) texts)) (one (bytes_eq name text.name) refl)
    ∙ beside_held name texts (record spot { beside = if bytes_eq name text.name then text.bytes else spot.beside })
  where
    one : (b : Bool) → bytes_eq name text.name ≡ b → fold (after name) spot (put Beside text) ≡ record spot { beside = if b then text.bytes else spot.beside }
    one true e = put_beside name text spot e
    one false e = put_other name Beside text spot e

pub moved_held : (name : List ℕ) (texts : List NamedText) (spot : Spot) → fold (after name) spot (flat_map moved texts) ≡ record spot { held = if is_among name texts then Some spot.beside else spot.held }
moved_held name [] spot = refl
moved_held name (text ∷ texts) spot =
    fold-append (after name) spot (moved text) (flat_map moved texts)
    ∙ both (bytes_eq name text.name) refl (λ s. moved_held name texts s)
  where
    again : (b : Bool) (s : Spot) → (if b then Some s.beside else Some s.beside) ≡ Some s.beside
    again true s = refl
    again false s = refl

    both : (b : Bool) → bytes_eq name text.name ≡ b → ((s : Spot) → fold (after name) s (flat_map moved texts) ≡ record s { held = if is_among name texts then Some s.beside else s.held }) → fold (after name) (fold (after name) spot (moved text)) (flat_map moved texts) ≡ record spot { held = if (if b then true else is_among name texts) then Some spot.beside else spot.held }
    both true e rest = ap (λ (s : Spot). fold (after name) s (flat_map moved texts)) (own e) ∙ rest (record spot { held = Some spot.beside }) ∙ ap (λ (h : Option (List ℕ)). record spot { held = h }) (again (is_among name texts) spot)
      where
        own : bytes_eq name text.name ≡ true → fold (after name) spot (moved text) ≡ record spot { held = Some spot.beside }
        own e = rw e refl
    both false e rest = ap (λ (s : Spot). fold (after name) s (flat_map moved texts)) (other e) ∙ rest spot
      where
        other : bytes_eq name text.name ≡ false → fold (after name) spot (moved text) ≡ spot
        other e = rw e refl

pub last_of-Some : (name : List ℕ) (texts : List NamedText) (b : List ℕ) → Some (last_beside name texts b) ≡ last_of name texts (Some b)
last_of-Some name [] b = refl
last_of-Some name (text ∷ texts) b = one (bytes_eq name text.name) (λ c. last_of-Some name texts c)
  where
    one : (t : Bool) → ((c : List ℕ) → Some (last_beside name texts c) ≡ last_of name texts (Some c)) → Some (last_beside name texts (if t then text.bytes else b)) ≡ last_of name texts (if t then Some text.bytes else Some b)
    one true more = more text.bytes
    one false more = more b

pub last_is : (name : List ℕ) (texts : List NamedText) (b : List ℕ) (h : Option (List ℕ)) → (if is_among name texts then Some (last_beside name texts b) else h) ≡ last_of name texts h
last_is name [] b h = refl
last_is name (text ∷ texts) b h = one (bytes_eq name text.name) (last_is name texts b h) (last_of-Some name texts text.bytes)
  where
    one : (t : Bool) → (if is_among name texts then Some (last_beside name texts b) else h) ≡ last_of name texts h → Some (last_beside name texts text.bytes) ≡ last_of name texts (Some text.bytes) → (if (if t then true else is_among name texts) then Some (last_beside name texts (if t then text.bytes else b)) else h) ≡ last_of name texts (if t then Some text.bytes else h)
    one true more own = own
    one false more own = more

-- files that are made beside their places, and moved there
pub replacing_held : (name : List ℕ) (texts : List NamedText) (spot : Spot) → (fold (after name) spot (flat_map (put Beside) texts ++ flat_map moved texts)).held ≡ last_of name texts spot.held
replacing_held name texts spot =
    ap (λ (s : Spot). s.held) (fold-append (after name) spot (flat_map (put Beside) texts) (flat_map moved texts)
    ∙ ap (λ (s : Spot). fold (after name) s (flat_map moved texts)) (beside_held name texts spot)
    ∙ moved_held name texts (record spot { beside = last_beside name texts spot.beside }))
    ∙ last_is name texts spot.beside spot.held

pub delivery_held : (name : List ℕ) (manner : Manner) (texts : List NamedText) (spot : Spot) → (fold (after name) spot (delivery manner texts)).held ≡ last_of name texts spot.held
delivery_held name InPlace texts spot = modeless_held name texts spot
delivery_held name Replacing texts spot = replacing_held name texts spot
