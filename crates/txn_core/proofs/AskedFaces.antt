-- Faces and phases behind an ask, or one that found no memory.
use Rattle.std.proofs.Common.{◌≡◌, inl, inr, ℕ, ◌<◌, List, length, Result, Ok, Err, OnOk, OnErr, sym, ap, ◌∙◌, subst}
use Rattle.std.proofs.lemmas.Bool.Decides.{eqb_tells}
use Rattle.lane_traits.specs.declared.draft.WordWrite.{WordWrite}
use Rattle.lane_types.specs.declared.call.Call.{Call}
use Rattle.lane_types.specs.Faces.{WholeFace}
use Rattle.lane_book.specs.declared.book.Book.{Book}
use Rattle.lane_book.specs.declared.lane.Lane.{Lane}
use Rattle.lane_book.specs.declared.lane.Doing.{Doing}
use Rattle.lane_book.specs.FacesOf.{lane_at}
use Rattle.lane_book.specs.Lanes.{IsRoomier}
use Rattle.lane_book.specs.Steps.{AsksFor, IsAskedIn, IsRoomierIn}
use Rattle.txn_core.specs.Asking.{ChangesFace, Owes}
use Rattle.txn_core.specs.Phases.{IsPhased, ArePhased}
use Rattle.txn_core.proofs.Phasing.{phased_with, owing_phased, asked_phased}

-- what holds of either result
pub either_way : {A B : Type 0} {P Q R : Type 0} (r : Result A B) → (P → R) → (Q → R) → OnOk r P → OnErr r Q → R
either_way (Ok x) f h p q = f p
either_way (Err e) f h p q = h q

-- two facts of one
pub on_ok_two : {A B : Type 0} {P Q R : Type 0} (r : Result A B) → (P → Q → R) → OnOk r P → OnOk r Q → OnOk r R
on_ok_two (Ok x) f p q = f p q
on_ok_two (Err e) f p q = p

-- ---- faces

-- what a lane owes is in no face
pub owed_face : {E : Type 0} (book later : Book E) (l m n : ℕ) → Owes book later l m n → ChangesFace (λ face. face) book later l
owed_face book later l m n owes = record {
  asks = λ base. record { others = λ k ne. owes.faces base k; face = owes.faces base l };
  many = owes.goes.lanes.count;
  touched = owes.touched;
}

-- a change behind none
pub face_then : {E : Type 0} (change : WholeFace E → WholeFace E) (book mid later : Book E) (l : ℕ) → ChangesFace (λ face. face) book mid l → ChangesFace change mid later l →
    ChangesFace change book later l
face_then change book mid later l first second = record {
  asks = λ base. record {
    others = λ k ne. (second.asks base).others k ne ∙ (first.asks base).others k ne;
    face = (second.asks base).face ∙ ap change (first.asks base).face;
  };
  many = second.many ∙ first.many;
  touched = second.touched ∙ first.touched;
}

-- ---- phases

pub owed_phases : {E : Type 0} (book later : Book E) (l m n : ℕ) → Owes book later l m n → ArePhased book → ArePhased later
owed_phases book later l m n owes phased k = elim (eqb_tells k l) [
  | inl e ↦ subst (λ i. IsPhased (lane_at later i)) (sym e.1) (subst IsPhased (sym owes.goes.lanes.here) (owing_phased (lane_at book l) m n (phased l)))
  | inr off ↦ subst IsPhased (sym (owes.goes.lanes.others k off.1)) (phased k)
]

roomier_phased : {E : Type 0} (lane later : Lane E) → IsRoomier lane later → IsPhased lane → IsPhased later
roomier_phased lane later roomier phased = subst IsPhased (sym roomier.is) (record { calling = phased.calling; joined = phased.joined; undone = phased.undone })

pub roomier_phases : {E : Type 0} (book later : Book E) (l : ℕ) → l < length book.lanes.items → IsRoomierIn book later l → ArePhased book → ArePhased later
roomier_phases book later l lt roomier = phased_with book later l (lane_at later l) book.touched lt (ap (λ (b : Book _). b.lanes) roomier.is) (roomier_phased (lane_at book l) (lane_at later l) roomier.lane)

asks_phased : {E : Type 0} (lane later : Lane E) (call : Call E) (doing : Doing) (writes : List WordWrite) (gives : List ℕ) (promised : ℕ) → lane.doing ≡ Doing.Nothing →
    AsksFor lane call doing writes gives promised later → IsPhased lane → IsPhased later
asks_phased lane later call doing writes gives promised nothing asks phased =
    let was = asked_phased call doing promised lane nothing phased in subst IsPhased (sym asks.is) (record { calling = was.calling; joined = was.joined; undone = was.undone })

pub asked_phases : {E : Type 0} (book later : Book E) (l : ℕ) (call : Call E) (doing : Doing) (writes : List WordWrite) (gives : List ℕ) (promised : ℕ) → l < length book.lanes.items →
    (lane_at book l).doing ≡ Doing.Nothing → IsAskedIn call doing writes gives promised book later l → ArePhased book → ArePhased later
asked_phases book later l call doing writes gives promised lt nothing asked = phased_with book later l (lane_at later l) book.touched lt (ap (λ (b : Book _). b.lanes) asked.is)
    (asks_phased (lane_at book l) (lane_at later l) call doing writes gives promised nothing asked.lane.asks)
