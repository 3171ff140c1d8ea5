-- Text written into a buffer, piece after piece.
use Rattle.std.proofs.Common.{◌≡◌, refl, sym, ap, subst, ◌∙◌, List, [], ◌++◌, ℕ, ◌+◌, ◌≤◌, length, take, drop, arith}
use mathlib.Core.Path.{ap₂}
use mathlib.Core.List.{append_assoc, append-nil}
use native.Mathlib.Nat.{add_assoc}
use lib.ListN.{length-append, take-append-drop}
use lib.Seq.{take_at, drop_at, drop-drop, length-take-le}
use Rattle.row_lines.specs.Writing.{Puts, Room, Adds}
use Rattle.row_lines.specs.declared.Lines.{Lines}

module _ (out : List ℕ) (place : ℕ) where
  pub puts_nothing : Puts out place [] place out
  puts_nothing = record {
    behind = omega arith;
    text =
        sym
        (let e : place + 0 ≡ place = omega arith in
        rw (e, append-nil) (take-append-drop place out));
  }

  -- what a buffer holds once a text is put: as long as it was
  module _ (t : List ℕ) (next : ℕ) (after : List ℕ) (fits : place + length t ≤ length out) (p : Puts out place t next after) where
    head : length (take place out ++ t) ≡ next
    head = length-append (take place out) t ∙ ap (λ (u : ℕ). u + length t) (length-take-le place out (omega arith)) ∙ sym p.behind

    front : take next after ≡ take place out ++ t
    front =
        let e = p.text in
        rw e (take_at (take place out ++ t) (drop (place + length t) out) next head)

    rest : drop next after ≡ drop (place + length t) out
    rest =
        let e = p.text in
        rw e (drop_at (take place out ++ t) (drop (place + length t) out) next head)

    -- a second text behind the first
    pub puts_then : (s : List ℕ) (next₂ : ℕ) (after₂ : List ℕ) → Puts after next s next₂ after₂ → Puts out place (t ++ s) next₂ after₂
    puts_then s next₂ after₂ q =
        let b : place + length t + length s ≡ place + length (t ++ s) =
        sym (ap (λ (u : ℕ). place + u) (length-append t s) ∙ sym (add_assoc place (length t) (length s))) in
        let d : drop (next + length s) after ≡ drop (place + length (t ++ s)) out =
        sym (drop-drop (length s) next after)
        ∙ ap (drop (length s)) rest
        ∙ drop-drop (length s) (place + length t) out
        ∙ ap (λ (u : ℕ). drop u out) b in
        record {
          behind = q.behind ∙ ap (λ (u : ℕ). u + length s) p.behind ∙ b;
          text =
              q.text
              ∙ ap₂ {C = List ℕ} (λ (x y : List ℕ). x ++ s ++ y) front d
              ∙ ap (λ (x : List ℕ). x ++ drop (place + length (t ++ s)) out) (append_assoc (take place out) t s);
        }

-- the same of lines
pub adds_nothing : (l : Lines) → Room l 0 → Adds l [] l
adds_nothing l h = record { same = refl; long = refl; room = h; puts = puts_nothing l.out.now l.place }

pub adds_as : {l k : Lines} {t s : List ℕ} → t ≡ s → Adds l t k → Adds l s k
adds_as {l} {k} {t} {s} e p = subst (λ (u : List ℕ). Adds l u k) e p

pub adds_then : {l k m : Lines} {t s : List ℕ} → Adds l t k → Adds k s m → Adds l (t ++ s) m
adds_then {l} {k} {m} {t} {s} p q = record {
  same = q.same ∙ p.same;
  long = q.long ∙ p.long;
  room = (let a = p.puts.behind in let b = q.room in let c = p.long in simp length-append (omega arith));
  puts = puts_then l.out.now l.place t k.place k.out.now p.room p.puts s m.place m.out.now q.puts;
}
