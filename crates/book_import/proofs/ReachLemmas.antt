-- How far an import reads: what it has counted, and how it ends.
use Rattle.std.proofs.Common.{◌≡◌, ◌∙◌, ℕ, ◌+◌, ◌≤◌, Bool, true, false, List, [], ◌++◌}
use Rattle.std.proofs.Common.{length, refl, sym, ap, subst, arith, append-nil, true≢false}
use Rattle.std.specs.Prelude.{◌||◌}
use Rattle.std.specs.Io.KnownBytes.{Consumes}
use Rattle.std.proofs.KnownBytes.{Consumes-nil}
use Rattle.smf_frames.specs.declared.dump.Layout.{Layout}
use Rattle.smf_frames.proofs.JoinerStates.{front_of_nothing}
use Rattle.streams.specs.InputOutput.{Input}
use Rattle.book_model.specs.Words.{Front, front}
use Rattle.book_import.specs.declared.receipt.Receipt.{Receipt}
use Rattle.book_model.specs.declared.note.Stop.{Stop}
use Rattle.book_import.specs.Receipts.{counted, is_stop_of_books}
use Rattle.book_import.specs.Reach.{is_early_stop, EndsBy, IsNoFurther, IsReadFor}

-- the reading ended with the input, a failure, or the last read
pub ends_late : {allowed : ℕ} {input : Input} {early : Bool} → early ≡ false
    → (input.new.has_failed ≡ false → input.new.has_ended ≡ false
    → input.new.reads ≡ input.old.reads + allowed)
    → EndsBy allowed early input
ends_late late out = record {
  in_midst = λ soon. absurd (true≢false (sym soon ∙ late));
  read_out = λ other. out;
}

-- it ended before, while the reader went on
pub ends_early : {allowed : ℕ} {input : Input} {early : Bool} → early ≡ true
    → input.new.has_failed ≡ false → input.new.has_ended ≡ false → EndsBy allowed early input
ends_early soon failed ended = record {
  in_midst = λ same. (failed, ended);
  read_out = λ late. absurd (true≢false (sym soon ∙ late));
}

-- the receipt with its stop, if the front of what came is not broken
not_early : (layout : Layout) (bytes : List ℕ) (receipt told : Receipt) (stop : Stop)
    → told ≡ record receipt { stop = stop } → is_stop_of_books stop ≡ false
    → (front layout bytes).is_broken ≡ false → is_early_stop (front layout bytes) told.stop ≡ false
not_early layout bytes receipt told stop so other whole =
    ap (λ (one : Receipt). is_stop_of_books one.stop || (front layout bytes).is_broken) so
    ∙ ap (λ b. b || (front layout bytes).is_broken) other ∙ whole

module _ (most : ℕ) (layout : Layout) (AreDone : List (List ℕ) → Type 0) (input : Input) where
  -- nothing was read
  pub nothing_further : AreDone [] → input.new.reads ≡ input.old.reads
      → IsNoFurther most layout [] AreDone input
  nothing_further done asked = record {
    before = [];
    last = [];
    parts = refl;
    piece = omega arith;
    nothing = λ shown. refl;
    reads = omega (arith, asked);
    unbroken = ap (λ (f : Front). f.is_broken) (front_of_nothing layout);
    done = subst (λ (f : Front). AreDone f.records) (sym (front_of_nothing layout)) done;
  }

  -- all that came preceded the end, or the last read that was allowed
  pub all_needed : (bytes : List ℕ) → (front layout bytes).is_broken ≡ false
      → AreDone (front layout bytes).records
      → input.new.reads ≤ input.old.reads + length bytes + 1
      → IsNoFurther most layout bytes AreDone input
  all_needed bytes unbroken done reads = record {
    before = bytes;
    last = [];
    parts = sym (append-nil bytes);
    piece = omega arith;
    nothing = λ shown. refl;
    reads = reads;
    unbroken = unbroken;
    done = done;
  }

  -- some bytes came last
  pub piece_needed : (bytes part : List ℕ) → (front layout bytes).is_broken ≡ false
      → AreDone (front layout bytes).records
      → input.new.reads ≤ input.old.reads + length bytes + 1 → length part ≤ most
      → input.new.has_failed ≡ false → input.new.has_ended ≡ false
      → IsNoFurther most layout (bytes ++ part) AreDone input
  piece_needed bytes part unbroken done reads piece failed ended = record {
    before = bytes;
    last = part;
    parts = refl;
    piece = piece;
    nothing = λ shown. absurd (true≢false (sym shown
        ∙ ap (λ b. b || input.new.has_ended) failed ∙ ended));
    reads = reads;
    unbroken = unbroken;
    done = done;
  }

-- nothing was read, because memory had run out
pub read_nothing : (most : ℕ) (layout : Layout) (allowed : ℕ) (told : Receipt) (input : Input)
    → is_stop_of_books told.stop ≡ true → input.new.left ≡ input.old.left
    → input.new.reads ≡ input.old.reads
    → input.new.has_failed ≡ false → input.new.has_ended ≡ false
    → IsReadFor most layout allowed [] told input
read_nothing most layout allowed told input stopped same asked failed ended = record {
  taken = subst (λ left. Consumes input.old.left left []) (sym same)
      (Consumes-nil input.old.left);
  ends = ends_early (ap (λ b. b || (front layout []).is_broken) stopped) failed ended;
  no_further = nothing_further most layout (λ records. length records ≤ counted told) input
      (omega arith) asked;
}

-- No more came: the stop is that of the end, or of what cut the reading short. At least one byte
-- came with each read but the last.
pub read_to_end : (most : ℕ) (layout : Layout) (allowed : ℕ) (bytes : List ℕ)
    (receipt told : Receipt) (stop : Stop) (input : Input) → told ≡ record receipt { stop = stop }
    → is_stop_of_books stop ≡ false → (front layout bytes).is_broken ≡ false
    → length (front layout bytes).records ≤ counted receipt
    → input.new.reads ≤ input.old.reads + length bytes + 1
    → (input.new.has_failed ≡ false → input.new.has_ended ≡ false
    → input.new.reads ≡ input.old.reads + allowed)
    → Consumes input.old.left input.new.left bytes → IsReadFor most layout allowed bytes told input
read_to_end most layout allowed bytes receipt told stop input so other whole all reads out taken =
    record {
      taken = taken;
      ends = ends_late (not_early layout bytes receipt told stop so other whole) out;
      no_further = all_needed most layout (λ records. length records ≤ counted told) input bytes whole
          (subst (λ (one : Receipt). length (front layout bytes).records ≤ counted one) (sym so)
          all) reads;
    }

-- The import was stopped in the piece that came last. At least one byte came with each read before.
pub read_to_stop : (most : ℕ) (layout : Layout) (allowed : ℕ) (bytes part : List ℕ)
    (receipt later told : Receipt) (stop : Stop) (input : Input)
    → told ≡ record later { stop = stop } → (front layout bytes).is_broken ≡ false
    → length (front layout bytes).records ≤ counted receipt
    → (is_early_stop (front layout (bytes ++ part)) stop ≡ true) × (counted receipt ≤ counted later)
    → length part ≤ most → input.new.reads ≤ input.old.reads + length bytes + 1
    → input.new.has_failed ≡ false → input.new.has_ended ≡ false
    → Consumes input.old.left input.new.left (bytes ++ part)
    → IsReadFor most layout allowed (bytes ++ part) told input
read_to_stop most layout allowed bytes part receipt later told stop input so whole all here piece reads
    failed ended taken =
    record {
      taken = taken;
      ends = ends_early
          (ap (λ (one : Receipt). is_early_stop (front layout (bytes ++ part)) one.stop) so ∙ here.0)
          failed ended;
      no_further = piece_needed most layout (λ records. length records ≤ counted told) input bytes part
          whole
          (subst (λ (one : Receipt). length (front layout bytes).records ≤ counted one) (sym so)
          (omega (arith, all, here.1))) reads piece failed ended;
    }
