-- How the parts of a delivery make its script.
use Rattle.std.proofs.{Common.{Bool, Err, List, Ok, Result, [], ap, cond, false, filter, map, not, refl, true, ◌||◌, ◌∙◌, ◌∷◌, ◌≡◌}, lemmas.List.Folds.flat_map-map}
use Rattle.std.specs.List.{flat_map, list_any}
use Rattle.kc_io.specs.{Delivered.{Delivered, Went, cleared, text_view}, Delivery.{NamedText, chosen, delivery, moved, put, share_name}, Log.{Journal, Leads, Log, Tells, is_held}, declared.{delivery.{Manner.{Manner, TheVariants.{InPlace, Replacing}}, Text.Text}, device.Site.TheVariants.{Beside, Place}, steps.Failure.Failure}}
use Rattle.kc_io.proofs.{LogLemmas.leads_both, WentLemmas.{went_after, went_stopped, went_whole}}

pub list_any-map : (p : NamedText → Bool) (texts : List Text) → list_any p (map text_view texts) ≡ list_any (λ text. p (text_view text)) texts
list_any-map p [] = refl
list_any-map p (text ∷ texts) = ap (λ (b : Bool). p (text_view text) || b) (list_any-map p texts)

pub filter-map : (p : NamedText → Bool) (texts : List Text) → map text_view (filter (λ text. p (text_view text)) texts) ≡ filter p (map text_view texts)
filter-map p [] = refl
filter-map p (text ∷ texts) = one (p (text_view text)) (filter-map p texts)
  where
    one : (b : Bool) → map text_view (filter (λ t. p (text_view t)) texts) ≡ filter p (map text_view texts) → map text_view (cond b (text ∷ filter (λ t. p (text_view t)) texts) (filter (λ t. p (text_view t)) texts)) ≡ cond b (text_view text ∷ filter p (map text_view texts)) (filter p (map text_view texts))
    one true e = ap (λ (l : List NamedText). text_view text ∷ l) e
    one false e = e

-- each where it belongs
pub plain : (manner : Manner) (texts : List Text) (old new : Log) (r : Result (Unit {0}) Failure) → manner ≡ InPlace → Went (flat_map (λ text. put Place (text_view text)) texts) old new r → Went (delivery manner (map text_view texts)) old new r
plain manner texts old new r e w = rw (e, flat_map-map (put Place) text_view texts) w

-- beside their places, and moved there
pub replacing : (manner : Manner) (texts : List Text) (old mid new : Log) (r : Result (Unit {0}) Failure) → manner ≡ Replacing → Went (flat_map (λ text. put Beside (text_view text)) texts) old mid (Ok tt) → Went (flat_map (λ text. moved (text_view text)) texts) mid new r → Went (delivery manner (map text_view texts)) old new r
replacing manner texts old mid new r e made w =
    rw (e, flat_map-map (put Beside) text_view texts, flat_map-map moved text_view texts) (went_after _ _ old mid new r (went_whole _ old mid made) w)

pub not_made : (manner : Manner) (texts : List Text) (old new : Log) (f : Failure) → manner ≡ Replacing → Went (flat_map (λ text. put Beside (text_view text)) texts) old new (Err f) → Went (delivery manner (map text_view texts)) old new (Err f)
not_made manner texts old new f e w =
    rw (e, flat_map-map (put Beside) text_view texts) (went_stopped _ _ old new f w)

-- the script was done, and what stood beside places was removed where it failed
pub delivered : (manner : Manner) (texts some : List NamedText) (old mid new : Log) (r : Result (Unit {0}) Failure) → Tells old (λ journal. some ≡ chosen manner texts journal) → Went (delivery manner some) old mid r → Leads (cleared manner r) [] mid new → Delivered manner texts old new r
delivered manner texts some old mid new r are w h = record {
  done = w.done;
  left = w.left;
  all = λ journal known. w.all ∙ ap (delivery manner) (are journal known);
  stops = w.stops;
  log = leads_both _ _ [] [] old mid new w.log h;
}

-- those that their files do not hold are chosen, where no two have one name
pub chosen_stale : (manner : Manner) (texts shown : List Text) (shared : Bool) (journal : Journal) → manner ≡ Replacing → shown ≡ texts → shared ≡ share_name (map text_view shown) → shared ≡ false → map text_view (filter (λ text. not (is_held journal text.name.now text.bytes.items)) texts) ≡ chosen manner (map text_view texts) journal
chosen_stale manner texts shown shared journal em same asked apart =
    let none : share_name (map text_view texts) ≡ false = cc in
    rw (em, none) (filter-map (λ text. not (is_held journal text.name text.bytes)) texts)
