-- The way back to where a strike began, and the whole of it: given, recorded, found again, handed out.
use Prim.Native.Nat.{ℕ, zero, suc, ◌+◌, ◌≤◌}
use mathlib.Core.Path.{◌≡◌, refl, sym, ap, subst, ◌∙◌}
use mathlib.Core.Bool.{true, false}
use mathlib.Core.List.{List, [], ◌∷◌, ◌++◌}
use native.Mathlib.Omega.{arith}
use lib.ListN.{length, take, replicate}
use lib.Seq.{take-take}
use Rattle.basis.specs.Choice.{pick}
use Rattle.std.specs.Prelude.{Ok}
use Rattle.tape.specs.Walk.{trail, start_of, past_marks}
use Rattle.tape.specs.Recording.{recorded}
use Rattle.tape.specs.Held.{Holds}
use Rattle.tape.proofs.Walking.{trail_start}
use Rattle.tape.proofs.Recorded.{recorded_length, recorded_before}
use Rattle.tape.proofs.Holding.{recorded_holds, past_same, past_next}
use Rattle.rules.specs.declared.drive.Drive.{Drive}
use Rattle.rules.specs.declared.drive.Mode.TheVariants.{Idle}
use Rattle.rules.specs.declared.drive.Bit.TheVariants.{Fil}
use Rattle.rules.specs.declared.unit.Port.{Port}
use Rattle.rules.specs.declared.phase.Phase.TheVariants.{Rest, Status}
use Rattle.rules.specs.Drive.{in_mode, rewound, stopping, passed_to, cleared}
use Rattle.rules.specs.Unit.{at_phase, at_level, showing}
use Rattle.rules.specs.Octets.{octets_of}
use Rattle.rules.specs.Effect.{Seat, seat}
use Rattle.rules.specs.Run.{World, after, run}
use Rattle.rules.specs.Promises.Runs.{command, report}
use Rattle.rules.specs.Promises.Strike.{drive_of, tape_of, Ready, MayRecord, AllWhole, strike, recording, Back, by_order, by_line, passing, Arrives, WayBack, StrikeComesBack, FirstStrikeComesBack}
use Rattle.rules.proofs.Ran.{run_append}
use Rattle.rules.proofs.Seated.{Sits, sits_works}
use Rattle.rules.proofs.Ways.{Fit, bot_moves, pass_moves, status_moves, fall_moves, rise_moves, octet_next}
use Rattle.rules.proofs.Blocks.{here_at_rest, ready_fit}
use Rattle.rules.proofs.Struck.{strike_fits, strike_recorded, first_strike_stays}
use Rattle.rules.proofs.Handed.{strike_handed_out}

-- The drive n is selected and takes tape orders, with its head at h and its tape t.
record Stands (w : World) (n h : ℕ) (t : List ℕ) : Type 0 where
  staging : List ℕ
  port : Port
  drive : Drive
  sits : Sits w staging (seat (at_phase Rest port) drive t)
  fit : Fit port drive Idle
  same : port.selected ≡ n
  at : drive.head ≡ h

-- ---- the way to the beginning

stands_here : (w : World) → Ready w → Stands w w.core.port.selected (drive_of w).head (tape_of w)
stands_here w r =
    record {
      staging = w.lent.staging;
      port = w.core.port;
      drive = drive_of w;
      sits = here_at_rest w r.works r.rest;
      fit = ready_fit w r;
      same = refl;
      at = refl;
    }

goes_back : (w : World) (n h : ℕ) (t : List ℕ) (back : List (List ℕ)) → Back back → Stands w n h t → Stands (run w back) n 0 t
goes_back w n h t back by_order s =
    let f = s.fit in
    record {
      staging = s.staging;
      port = s.port;
      drive = rewound s.drive;
      sits = (bot_moves s.port s.drive t w s.staging s.sits f).next;
      fit = record { online = f.online; loaded = f.loaded; calm = f.calm; mode = f.mode };
      same = s.same;
      at = refl;
    }
goes_back w n h t back by_line s =
    let f = s.fit in
    let down = fall_moves s.port s.drive t w s.staging s.sits f in
    let home = rewound (in_mode Idle s.drive) in
    record {
      staging = s.staging;
      port = at_level true s.port;
      drive = home;
      sits = (rise_moves (at_level false s.port) home t (after w (5 ∷ [])) s.staging down.next).next;
      fit = record { online = refl; loaded = f.loaded; calm = f.calm; mode = refl };
      same = s.same;
      at = refl;
    }

-- ---- past a mark, with the report that FIL asks for

six_octets : (p : Port) (d : Drive) (t : List ℕ) (w : World) (g : List ℕ) → Sits w g (seat (at_phase (Status 6) p) d t)
    → Sits (run w (replicate 6 (3 ∷ []))) g (seat (at_phase Rest p) d t)
unfolding pick
six_octets p d t w g k =
    let w1 = after w (3 ∷ []) in
    let w2 = after w1 (3 ∷ []) in
    let w3 = after w2 (3 ∷ []) in
    let w4 = after w3 (3 ∷ []) in
    let w5 = after w4 (3 ∷ []) in
    octet_next p d t w5 g 1 (octet_next p d t w4 g 2 (octet_next p d t w3 g 3 (octet_next p d t w2 g 4 (octet_next p d t w1 g 5
    (octet_next p d t w g 6 k)))))

passes_one : (w : World) (n h m : ℕ) (t : List ℕ) → past_marks 1 (trail t h) ≡ Ok m → Stands w n h t
    → Stands (run w (command 160 ++ report)) n m t
passes_one w n h m t e s =
    let f = s.fit in
    let past = stopping Fil (passed_to m s.drive) in
    let there = ap (λ (x : ℕ). past_marks 1 (trail t x)) s.at ∙ e in
    let found = pass_moves s.port s.drive t w s.staging m s.sits f there in
    let told = status_moves s.port past t (after w (1 ∷ 160 ∷ [])) s.staging found.next in
    let shown = showing (octets_of past) s.port in
    record {
      staging = s.staging;
      port = shown;
      drive = cleared past;
      sits = six_octets shown (cleared past) t (after (after w (1 ∷ 160 ∷ [])) (1 ∷ 192 ∷ [])) s.staging told.next;
      fit = record { online = f.online; loaded = f.loaded; calm = refl; mode = refl };
      same = s.same;
      at = refl;
    }

passes : (k : ℕ) (w : World) (n h m : ℕ) (t : List ℕ) → past_marks k (trail t h) ≡ Ok m → Stands w n h t → Stands (run w (passing k)) n m t
passes zero w n h m t e s = let q : start_of (trail t h) ≡ m = cc in subst (λ (x : ℕ). Stands w n x t) (sym (trail_start t h) ∙ q) s
passes (suc k) w n h m t e s =
    let on = past_next t h k m e in
    passes k (run w (command 160 ++ report)) n on.mark m t on.others (passes_one w n h on.mark t on.first s)

arrives : (w w' : World) (h : ℕ) → Stands w' w.core.port.selected h (tape_of w) → Arrives w w' h
arrives w w' h s =
    let seen = s.sits.seat in
    let f = s.fit in
    let drive = ap (λ (x : Seat). x.drive) seen in
    record {
      ready =
          record {
            works = sits_works s.sits;
            rest = ap (λ (x : Seat). x.port.phase) seen;
            online = ap (λ (x : Seat). x.port.online) seen ∙ f.online;
            loaded = ap (λ (x : Drive). x.loaded) drive ∙ f.loaded;
            idle = ap (λ (x : Drive). x.mode) drive ∙ f.mode;
            calm = ap (λ (x : Drive). x.exception) drive ∙ f.calm;
          };
      selected = ap (λ (x : Seat). x.port.selected) seen ∙ s.same;
      head = ap (λ (x : Drive). x.head) drive ∙ s.at;
      tape = ap (λ (x : Seat). x.tape) seen;
    }

pub way_back : WayBack
way_back w k h back r b e =
    arrives w (run w (back ++ passing k)) h
    (rw (run_append w back (passing k)) (passes k (run w back) w.core.port.selected 0 h (tape_of w) e (goes_back w _ _ (tape_of w) back b (stands_here w r))))

-- ---- the strike comes back

recorded_ready : (w : World) (bs : List (List ℕ)) → AllWhole bs → MayRecord w (length bs) → Ready (run w (recording bs))
recorded_ready w bs a m =
    let s = (strike_recorded w bs a m).1 in
    let r = m.ready in
    record {
      works = s.works;
      rest = rw s.port r.rest;
      online = rw s.port r.online;
      loaded = ap (λ (x : Drive). x.loaded) s.drive ∙ r.loaded;
      idle = ap (λ (x : Drive). x.mode) s.drive ∙ r.idle;
      calm = ap (λ (x : Drive). x.exception) s.drive ∙ r.calm;
    }

-- a recording leaves the way to where it began
same_way : (w : World) (bs : List (List ℕ)) (k h : ℕ) → AllWhole bs → MayRecord w (length bs) → h ≤ (drive_of w).head
    → past_marks k (trail (tape_of w) 0) ≡ Ok h → past_marks k (trail (tape_of (run w (recording bs))) 0) ≡ Ok h
same_way w bs k h a m near e =
    let t = tape_of w in
    let fits = strike_fits w bs a m in
    let t₁ = recorded t (drive_of w).head (strike bs) in
    let size = recorded_length t (strike bs) (drive_of w).head fits in
    let before : take h t ≡ take h t₁ =
    sym (take-take h (drive_of w).head t near) ∙ ap (take h) (sym (recorded_before t (strike bs) (drive_of w).head fits))
    ∙ take-take h (drive_of w).head t₁ near in
    ap (λ (x : List ℕ). past_marks k (trail x 0)) (strike_recorded w bs a m).1.tape
    ∙ past_same t t₁ 0 k h e before (rw size (omega (arith, fits, near)))

-- and leads there
pub strike_found : (w : World) (bs : List (List ℕ)) (k : ℕ) (back : List (List ℕ)) → AllWhole bs → MayRecord w (length bs)
    → past_marks k (trail (tape_of w) 0) ≡ Ok (drive_of w).head → Back back
    → Arrives (run w (recording bs)) (run (run w (recording bs)) (back ++ passing k)) (drive_of w).head
strike_found w bs k back a m e b =
    way_back (run w (recording bs)) k (drive_of w).head back (recorded_ready w bs a m) b (same_way w bs k (drive_of w).head a m (omega arith) e)

-- what was recorded stands where it was
recorded_there : (w : World) (bs : List (List ℕ)) → AllWhole bs → MayRecord w (length bs)
    → Holds (tape_of (run w (recording bs))) (drive_of w).head (strike bs)
recorded_there w bs a m =
    rw (strike_recorded w bs a m).1.tape (recorded_holds (tape_of w) (strike bs) (drive_of w).head (strike_fits w bs a m))

pub strike_comes_back : StrikeComesBack
strike_comes_back w bs k back a m e b =
    let w₂ = run (run w (recording bs)) (back ++ passing k) in
    let way = strike_found w bs k back a m e b in
    let held : Holds (tape_of w₂) (drive_of w₂).head (strike bs) = rw (way.tape, way.head) (recorded_there w bs a m) in
    ((strike_recorded w bs a m).0, strike_handed_out w₂ bs a way.ready held)

pub first_strike_comes_back : FirstStrikeComesBack
first_strike_comes_back w bs cs k back a c m n e b =
    let h = (drive_of w).head in
    let v = run w (recording bs) in
    let w₁ = run v (recording cs) in
    let w₂ = run w₁ (back ++ passing k) in
    let behind : (drive_of v).head ≡ h + length (strike bs) = ap (λ (d : Drive). d.head) (strike_recorded w bs a m).1.drive in
    let way =
    way_back w₁ k h back (recorded_ready v cs c n) b
    (same_way v cs k h c n (omega (arith, behind)) (same_way w bs k h a m (omega arith) e)) in
    let there = first_strike_stays v bs cs h c n (omega (arith, behind)) (recorded_there w bs a m) in
    let held : Holds (tape_of w₂) (drive_of w₂).head (strike bs) = rw (way.tape, way.head) there in
    strike_handed_out w₂ bs a way.ready held
