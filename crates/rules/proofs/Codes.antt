-- What the codes of orders and the forms of events fix.
use Prim.Native.Nat.{ℕ, ◌≤◌}
use mathlib.Core.Path.{◌≡◌, refl, sym, subst}
use mathlib.Core.Bool.{Bool, true, false}
use mathlib.Core.List.{List, [], ◌∷◌}
use lib.Dec.{leb, eqb}
use borrow.Author.Tests.{leb-true, eqb-true}
use Rattle.std.specs.Prelude.{Option, None, Some}
use Rattle.basis.specs.Choice.{pick}
use Rattle.rules.specs.declared.order.Order.{Order}
use Rattle.rules.specs.declared.order.Order.TheVariants.{Select, Bot, Erase, Initialize, Write, WriteMark, Read, ReadMark, ReadStatus}
use Rattle.rules.specs.declared.event.Act.TheVariants.{Command}
use Rattle.rules.specs.declared.event.What.{What}
use Rattle.rules.specs.declared.event.Event.{Event}
use Rattle.rules.specs.declared.event.Event.TheVariants.{Reset, Named, Own}
use Rattle.rules.specs.Order.{order_of}
use Rattle.rules.specs.Event.{named, bare_event, bodied_event, event_of}

-- A code that is none of the twelve.
pub record NoCode (c : ℕ) : Type 0 where
  pub not1 : eqb c 1 ≡ false
  pub not2 : eqb c 2 ≡ false
  pub not4 : eqb c 4 ≡ false
  pub not8 : eqb c 8 ≡ false
  pub not33 : eqb c 33 ≡ false
  pub not34 : eqb c 34 ≡ false
  pub not36 : eqb c 36 ≡ false
  pub not64 : eqb c 64 ≡ false
  pub not96 : eqb c 96 ≡ false
  pub not128 : eqb c 128 ≡ false
  pub not160 : eqb c 160 ≡ false
  pub not192 : eqb c 192 ≡ false

-- By the code: what holds of the twelve with their orders, and of every other with none, holds of each.
module _ (P : ℕ → Option Order → Type 0) where
  pub record Twelve : Type 0 where
    pub at1 : P 1 (Some (Select 0))
    pub at2 : P 2 (Some (Select 1))
    pub at4 : P 4 (Some (Select 2))
    pub at8 : P 8 (Some (Select 3))
    pub at33 : P 33 (Some Bot)
    pub at34 : P 34 (Some Erase)
    pub at36 : P 36 (Some Initialize)
    pub at64 : P 64 (Some Write)
    pub at96 : P 96 (Some WriteMark)
    pub at128 : P 128 (Some Read)
    pub at160 : P 160 (Some ReadMark)
    pub at192 : P 192 (Some ReadStatus)

  at : (c k : ℕ) (o : Option Order) → eqb c k ≡ true → P k o → P c o
  at c k o e p = subst (λ (x : ℕ). P x o) (sym (eqb-true c k e)) p

  pub by_code : Twelve → ((c : ℕ) → NoCode c → P c None) → (c : ℕ) → P c (order_of c)
  unfolding order_of pick
  by_code t none c =
      go (eqb c 1) (eqb c 2) (eqb c 4) (eqb c 8) (eqb c 33) (eqb c 34) (eqb c 36) (eqb c 64) (eqb c 96) (eqb c 128) (eqb c 160) (eqb c 192) refl refl refl refl refl refl refl refl refl refl refl refl
    where
      go : (b1 b2 b4 b8 b33 b34 b36 b64 b96 b128 b160 b192 : Bool) → eqb c 1 ≡ b1 → eqb c 2 ≡ b2 → eqb c 4 ≡ b4 → eqb c 8 ≡ b8 → eqb c 33 ≡ b33 → eqb c 34 ≡ b34 → eqb c 36 ≡ b36 → eqb c 64 ≡ b64 → eqb c 96 ≡ b96 → eqb c 128 ≡ b128 → eqb c 160 ≡ b160 → eqb c 192 ≡ b192
          → P c (pick b1 (Some (Select 0)) (pick b2 (Some (Select 1)) (pick b4 (Some (Select 2)) (pick b8 (Some (Select 3)) (pick b33 (Some Bot) (pick b34 (Some Erase) (pick b36 (Some Initialize) (pick b64 (Some Write) (pick b96 (Some WriteMark) (pick b128 (Some Read) (pick b160 (Some ReadMark) (pick b192 (Some ReadStatus) None))))))))))))
      go true b2 b4 b8 b33 b34 b36 b64 b96 b128 b160 b192 e1 e2 e4 e8 e33 e34 e36 e64 e96 e128 e160 e192 = at c 1 (Some (Select 0)) e1 t.at1
      go false true b4 b8 b33 b34 b36 b64 b96 b128 b160 b192 e1 e2 e4 e8 e33 e34 e36 e64 e96 e128 e160 e192 = at c 2 (Some (Select 1)) e2 t.at2
      go false false true b8 b33 b34 b36 b64 b96 b128 b160 b192 e1 e2 e4 e8 e33 e34 e36 e64 e96 e128 e160 e192 = at c 4 (Some (Select 2)) e4 t.at4
      go false false false true b33 b34 b36 b64 b96 b128 b160 b192 e1 e2 e4 e8 e33 e34 e36 e64 e96 e128 e160 e192 = at c 8 (Some (Select 3)) e8 t.at8
      go false false false false true b34 b36 b64 b96 b128 b160 b192 e1 e2 e4 e8 e33 e34 e36 e64 e96 e128 e160 e192 = at c 33 (Some Bot) e33 t.at33
      go false false false false false true b36 b64 b96 b128 b160 b192 e1 e2 e4 e8 e33 e34 e36 e64 e96 e128 e160 e192 = at c 34 (Some Erase) e34 t.at34
      go false false false false false false true b64 b96 b128 b160 b192 e1 e2 e4 e8 e33 e34 e36 e64 e96 e128 e160 e192 = at c 36 (Some Initialize) e36 t.at36
      go false false false false false false false true b96 b128 b160 b192 e1 e2 e4 e8 e33 e34 e36 e64 e96 e128 e160 e192 = at c 64 (Some Write) e64 t.at64
      go false false false false false false false false true b128 b160 b192 e1 e2 e4 e8 e33 e34 e36 e64 e96 e128 e160 e192 = at c 96 (Some WriteMark) e96 t.at96
      go false false false false false false false false false true b160 b192 e1 e2 e4 e8 e33 e34 e36 e64 e96 e128 e160 e192 = at c 128 (Some Read) e128 t.at128
      go false false false false false false false false false false true b192 e1 e2 e4 e8 e33 e34 e36 e64 e96 e128 e160 e192 = at c 160 (Some ReadMark) e160 t.at160
      go false false false false false false false false false false false true e1 e2 e4 e8 e33 e34 e36 e64 e96 e128 e160 e192 = at c 192 (Some ReadStatus) e192 t.at192
      go false false false false false false false false false false false false e1 e2 e4 e8 e33 e34 e36 e64 e96 e128 e160 e192 =
          none c (record { not1 = e1; not2 = e2; not4 = e4; not8 = e8; not33 = e33; not34 = e34; not36 = e36; not64 = e64; not96 = e96; not128 = e128; not160 = e160; not192 = e192 })

-- The orders that seven of them are.
pub record Orders : Type 0 where
  pub bot : order_of 33 ≡ Some Bot
  pub erase : order_of 34 ≡ Some Erase
  pub write : order_of 64 ≡ Some Write
  pub mark : order_of 96 ≡ Some WriteMark
  pub read : order_of 128 ≡ Some Read
  pub pass : order_of 160 ≡ Some ReadMark
  pub status : order_of 192 ≡ Some ReadStatus

pub orders : Orders
unfolding order_of pick
orders = record { bot = refl; erase = refl; write = refl; mark = refl; read = refl; pass = refl; status = refl }

-- The code that an order comes by; SELECT names one of four drives.
abbrev code_fits : ℕ → Option Order → Bool
code_fits c None = true
code_fits c (Some (Select n)) = leb n 3
code_fits c (Some Bot) = eqb c 33
code_fits c (Some Erase) = eqb c 34
code_fits c (Some Initialize) = eqb c 36
code_fits c (Some Write) = eqb c 64
code_fits c (Some WriteMark) = eqb c 96
code_fits c (Some Read) = eqb c 128
code_fits c (Some ReadMark) = eqb c 160
code_fits c (Some ReadStatus) = eqb c 192

order_coded : (c : ℕ) → code_fits c (order_of c) ≡ true
order_coded =
    by_code (λ c o. code_fits c o ≡ true)
    (record { at1 = refl; at2 = refl; at4 = refl; at8 = refl; at33 = refl; at34 = refl; at36 = refl; at64 = refl; at96 = refl; at128 = refl; at160 = refl; at192 = refl }) (λ c n. refl)

code_fits_lem : (c : ℕ) (o : Option Order) → order_of c ≡ o → code_fits c o ≡ true
code_fits_lem c o e = rw e at (order_coded c)

pub select_real : (c n : ℕ) → order_of c ≡ Some (Select n) → n ≤ 3
select_real c n e = leb-true n 3 (code_fits_lem c (Some (Select n)) e)

pub erase_code : (c : ℕ) → order_of c ≡ Some Erase → c ≡ 34
erase_code c e = eqb-true c 34 (code_fits_lem c (Some Erase) e)

pub write_code : (c : ℕ) → order_of c ≡ Some Write → c ≡ 64
write_code c e = eqb-true c 64 (code_fits_lem c (Some Write) e)

pub mark_code : (c : ℕ) → order_of c ≡ Some WriteMark → c ≡ 96
mark_code c e = eqb-true c 96 (code_fits_lem c (Some WriteMark) e)

pub read_code : (c : ℕ) → order_of c ≡ Some Read → c ≡ 128
read_code c e = eqb-true c 128 (code_fits_lem c (Some Read) e)

pub pass_code : (c : ℕ) → order_of c ≡ Some ReadMark → c ≡ 160
pass_code c e = eqb-true c 160 (code_fits_lem c (Some ReadMark) e)

pub status_code : (c : ℕ) → order_of c ≡ Some ReadStatus → c ≡ 192
status_code c e = eqb-true c 192 (code_fits_lem c (Some ReadStatus) e)

-- A command octet is an order of the host.
pub command_event : (k : ℕ) → event_of (1 ∷ k ∷ []) ≡ Some (Own (Command k))
unfolding event_of bodied_event pick
command_event k = refl

-- A drive that an event names is one of four.
abbrev names_real : Option Event → Bool
names_real None = true
names_real (Some Reset) = true
names_real (Some (Named i w)) = leb i 3
names_real (Some (Own a)) = true

record Formed (e : Option Event) : Type 0 where
  is : names_real e ≡ true

formed_pick : (b : Bool) {x y : Option Event} → (b ≡ true → Formed x) → Formed y → Formed (pick b x y)
unfolding pick
formed_pick true f g = f refl
formed_pick false f g = g

formed : (e : Option Event) → names_real e ≡ true → Formed e
formed e h = record { is = h }

named_formed : (n : ℕ) (w : What) → Formed (named n w)
named_formed n w = formed_pick (leb n 3) (λ h. formed (Some (Named n w)) h) (formed None refl)

bare_formed : (k : ℕ) → Formed (bare_event k)
unfolding bare_event
bare_formed k = search (formed_pick, formed) depth 8

bodied_formed : (k b : ℕ) → Formed (bodied_event k b)
unfolding bodied_event
bodied_formed k b = search (formed_pick, formed, named_formed) depth 10

event_formed : (l : List ℕ) → Formed (event_of l)
unfolding event_of
event_formed l = search (formed_pick, formed, bare_formed, bodied_formed)

pub named_real : (l : List ℕ) (i : ℕ) (w : What) → event_of l ≡ Some (Named i w) → i ≤ 3
named_real l i w e = leb-true i 3 (rw e at (event_formed l).is)
