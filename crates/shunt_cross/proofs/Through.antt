-- If nothing clashes, and what is answered of the run.
use Rattle.std.proofs.Common.{◌≡◌, ◌↔◌, ℕ, List, Result, Ok, Err, refl, sym, subst, ap, ◌∙◌}
use Rattle.std.specs.Result.{IsOk}
use Rattle.std.proofs.lemmas.Bool.{false≢true}
use Rattle.shunt_base.specs.declared.keys.Stay.{Stay}
use Rattle.shunt_base.specs.defs.Keys.{AreStays}
use Rattle.shunt_stays.specs.defs.Run.{Through, Stop, AreOnTracks, GoesThrough, run_of}
use Rattle.shunt_stays.specs.defs.Run.Stop.{Blocked, Over}
use Rattle.shunt_stays.specs.defs.Crossings.{pairs_in, overs_in}
use Rattle.shunt_stays.proofs.Crossings.{through_clear, clear_through, no_pairs, no_overs}
use Rattle.shunt_tracks.specs.declared.run.Ran.{Ran}
use Rattle.shunt_tracks.specs.defs.Answer.{answer}
use Rattle.shunt_cross.specs.declared.clash.Clash.{Clash}
use Rattle.shunt_cross.specs.defs.Clashes.{clash_of, no_clash, IsThrough}

pub counts : (lengths : List ℕ) (stays : List Stay) (p o : ℕ) → AreStays stays → AreOnTracks lengths stays → p ≡ pairs_in stays → o ≡ overs_in lengths stays
    → (p ≡ 0) × (o ≡ 0) ↔ GoesThrough lengths stays
counts lengths stays p o a on pairs over = (
  λ k. clear_through lengths stays a on ((no_pairs stays).0 (sym pairs ∙ k.0)) ((no_overs lengths stays).0 (sym over ∙ k.1)),
  λ go. let k = through_clear lengths stays a on go in (pairs ∙ (no_pairs stays).1 k.0, over ∙ (no_overs lengths stays).1 k.1),
)

answered : (r : Result Through Stop) → IsThrough (answer r) ↔ IsOk r
answered (Ok t) = (λ h. refl, λ h. tt)
answered (Err (Blocked m)) = (λ h. absurd h, λ h. false≢true h)
answered (Err (Over m n)) = (λ h. absurd h, λ h. false≢true h)

pub in_code : (lengths : List ℕ) (stays : List Stay) (clash : Clash) (ran : Ran) → AreStays stays → AreOnTracks lengths stays → clash ≡ clash_of lengths stays
    → ran ≡ answer (run_of lengths stays) → (clash ≡ no_clash) ↔ IsThrough ran
in_code lengths stays clash ran a on counted ran_is =
    let law = counts lengths stays clash.pairs clash.over a on (ap (λ (c : Clash). c.pairs) counted) (ap (λ (c : Clash). c.over) counted) in
    let end = answered (run_of lengths stays) in (
      λ e. subst IsThrough (sym ran_is) (end.1 (law.0 (ap (λ (c : Clash). c.pairs) e, ap (λ (c : Clash). c.over) e))),
      λ h. let k = law.1 (end.0 (subst IsThrough ran_is h)) in ap (λ n. record { pairs = n; over = clash.over }) k.0 ∙ ap (λ n. record { pairs = 0; over = n }) k.1,
    )
