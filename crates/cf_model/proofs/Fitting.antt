-- Whether an event fits, as a Bool.
use Rattle.std.proofs.Common.{◌≡◌, ℕ, ◌<◌, Bool, true, List, length, refl, sym, ap, ◌∙◌}
use Rattle.std.specs.Prelude.{◌↔◌, ◌&&◌, Option, is_some, nat_lt}
use Rattle.std.specs.Bool.{Decides}
use Rattle.std.specs.List.{All, list_all}
use Rattle.std.proofs.lemmas.Bool.Decides.{Decides-and, Decides-by_and, Decides-ltb, same_from_decides}
use Rattle.cf_forms.specs.declared.forms.Form.{Form}
use Rattle.cf_forms.specs.declared.forms.Of.{Of}
use Rattle.cf_forms.specs.Plans.{fits_form, sources_of}
use Rattle.cf_model.specs.declared.events.Event.{Event}
use Rattle.cf_model.specs.declared.events.Event.TheVariants.{Complete as Completes, Fail as Fails, FailAs as FailsAs, Cancel as Cancels, Claim as Claims, Finish as Finishes, Tick as Ticks, Attach as Attaches}
use Rattle.cf_model.specs.Ranges.{EventFits, fits}

all-below : (n : ℕ) (of : List ℕ) → Decides (list_all (λ j. nat_lt j n) of) (All (λ j. j < n) of)
all-below n = Decides-by_and (λ j. nat_lt j n) (λ j. j < n) (list_all (λ j. nat_lt j n)) (λ j. Decides-ltb j n) refl (λ j more. refl)

pub fits-decides : (n : ℕ) (e : Event) → Decides (fits n e) (EventFits n e)
fits-decides n (Completes who i v) = Decides-ltb i n
fits-decides n (Fails who i code) = Decides-ltb i n
fits-decides n (FailsAs who i failure) = Decides-ltb i n
fits-decides n (Cancels who i) = Decides-ltb i n
fits-decides n (Claims who i) = Decides-ltb i n
fits-decides n (Finishes who i answer) = Decides-ltb i n
fits-decides n (Ticks who now) = (λ h. tt, λ h. refl)
fits-decides n (Attaches who form of function) =
    Decides-and (fits_form form (length (sources_of of)) (is_some function)) (list_all (λ j. nat_lt j n) (sources_of of)) (λ h. h, λ h. h) (all-below n (sources_of of))

-- one that attaches a stage that fits its form fits where the sources are there
pub attach-fits : (n who : ℕ) (form : Form) (of : Of) (function : Option ℕ) (b : Bool) → fits_form form (length (sources_of of)) (is_some function) ≡ true
    → (b ≡ true ↔ All (λ j. j < n) (sources_of of)) → b ≡ fits n (Attaches who form of function)
attach-fits n who form of function b fitting h =
    same_from_decides b (list_all (λ j. nat_lt j n) (sources_of of)) (h.0, h.1) (all-below n (sources_of of))
    ∙ ap (λ (x : Bool). x && list_all (λ j. nat_lt j n) (sources_of of)) (sym fitting)
