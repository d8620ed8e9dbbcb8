-- The tables of the code lay a frame's bits out where the standard says: one computed test over all 632 cells.
use Rattle.std.proofs.Common.{◌≡◌, ℕ, ◌<◌, cond, eqb, List, [], ◌∷◌, map, length, get_or, replicate, refl, ap, ◌∙◌, arith}
use Rattle.std.specs.List.{range_with_len}
use lib.ListN.{get_or-replicate}
use Rattle.std.proofs.lemmas.List.FromFn.{fill_by_all}
use Rattle.guards.specs.Words.{by_sample}
use Rattle.frames.specs.Places.{lies, lies_at, place}
use Rattle.frames.specs.Frame.{carried, heard_by}
use Rattle.frames.specs.declared.content.Frame.{Frame}
use Rattle.frames.specs.Content.{pair_in, Listed, listed}
use Rattle.frames.specs.Sheet.{bit_of, bit_of_cell, start_of, half_of, offset_in, over, word_at, columns_a, columns_b, columns_c, columns_d}
use Rattle.guards.specs.Counts.{same_at}

-- the tables of src/letters.rt
abbrev pub range_cells : List ℕ
range_cells = 38 ∷ 117 ∷ 196 ∷ 275 ∷ 354 ∷ 433 ∷ 512 ∷ 591 ∷ 157 ∷ 315 ∷ 473 ∷ 631 ∷ []

abbrev pub check_cells : List ℕ
check_cells = 39 ∷ 78 ∷ 197 ∷ 236 ∷ 276 ∷ []

-- what one letter's words leave in cell c, which held v
abbrev pub over_words : List ℕ → List ℕ → ℕ → ℕ → ℕ
over_words columns words c v = over 0 columns (get_or words (half_of c) 0) (offset_in c) v

-- what all writes leave in cell c
abbrev pub laid_out : Frame → ℕ → ℕ
laid_out f c =
    over 316 check_cells f.second.checks c
    (over 0 check_cells f.first.checks c
    (over 0 range_cells f.ranges c
    (over_words columns_d f.second.odd.words c
    (over_words columns_c f.first.even.words c
    (over_words columns_b f.second.even.words c
    (over_words columns_a f.first.odd.words c 0))))))

all_cells : (f : Frame) → map (laid_out f) (range_with_len 0 632) ≡ map (λ c. carried (pair_in f) (lies_at (bit_of_cell c))) (range_with_len 0 632)
unfolding lies
all_cells f = refl

pub laid_out_right : (f : Frame) (c : ℕ) → c < 632 → laid_out f c ≡ carried (pair_in f) (lies_at (bit_of_cell c))
laid_out_right f c h = same_at (laid_out f) (λ c. carried (pair_in f) (lies_at (bit_of_cell c))) 0 632 (all_cells f) c (omega arith) (omega arith)

-- the same, write by write
abbrev Written : (ℕ → ℕ → ℕ) → List ℕ → List ℕ → Type 0
Written step xs ys = (c : ℕ) → c < 632 → get_or ys c 0 ≡ step c (get_or xs c 0)

pub seven_writes : (f : Frame) (A B C D s1 s2 s3 s4 s5 s6 s7 : List ℕ) (k1 k2 : ℕ) → A ≡ columns_a → B ≡ columns_b → C ≡ columns_c → D ≡ columns_d → k1 ≡ f.first.checks → k2 ≡ f.second.checks
    → Written (over_words A f.first.odd.words) (replicate 632 0) s1 → Written (over_words B f.second.even.words) s1 s2
    → Written (over_words C f.first.even.words) s2 s3 → Written (over_words D f.second.odd.words) s3 s4
    → Written (over 0 range_cells f.ranges) s4 s5 → Written (over 0 check_cells k1) s5 s6 → Written (over 316 check_cells k2) s6 s7
    → (c : ℕ) → c < 632 → get_or s7 c 0 ≡ carried (pair_in f) (lies_at (bit_of_cell c))
seven_writes f A B C D s1 s2 s3 s4 s5 s6 s7 k1 k2 eA eB eC eD q1 q2 e1 e2 e3 e4 e5 e6 e7 c h =
    e7 c h ∙ ap (λ k. over 316 check_cells k c (get_or s6 c 0)) q2 ∙ ap (over 316 check_cells f.second.checks c)
    (e6 c h ∙ ap (λ k. over 0 check_cells k c (get_or s5 c 0)) q1 ∙ ap (over 0 check_cells f.first.checks c)
    (e5 c h ∙ ap (over 0 range_cells f.ranges c)
    (e4 c h ∙ ap (λ t. over_words t f.second.odd.words c (get_or s3 c 0)) eD ∙ ap (over_words columns_d f.second.odd.words c)
    (e3 c h ∙ ap (λ t. over_words t f.first.even.words c (get_or s2 c 0)) eC ∙ ap (over_words columns_c f.first.even.words c)
    (e2 c h ∙ ap (λ t. over_words t f.second.even.words c (get_or s1 c 0)) eB ∙ ap (over_words columns_b f.second.even.words c)
    (e1 c h ∙ ap (λ t. over_words t f.first.odd.words c (get_or (replicate 632 0) c 0)) eA ∙ ap (over_words columns_a f.first.odd.words c) (get_or-replicate 632 c 0 0 h)))))))
    ∙ laid_out_right f c h

-- the words of one letter, by the cells
abbrev pub collected : List ℕ → List ℕ → List ℕ
collected cells columns = map (λ i. word_at cells (start_of i) columns) (range_with_len 0 16)

-- a frame's lists by the four letters' words, the range word and the checks
abbrev pub listed_by : List ℕ → List ℕ → List ℕ → List ℕ → ℕ → ℕ → ℕ → Listed
listed_by A B C D r c1 c2 = listed (record {
  word = λ block n. cond (eqb block 1) (by_sample A C n) (by_sample D B n);
  ranges = r;
  checks = λ block. cond (eqb block 1) c1 c2;
})

all_words : (cells : List ℕ)
    → listed_by (collected cells columns_a) (collected cells columns_b) (collected cells columns_c) (collected cells columns_d)
    (word_at cells 0 range_cells) (word_at cells 0 check_cells) (word_at cells 316 check_cells)
    ≡ listed (heard_by (bit_of cells))
unfolding place word_at
all_words cells = refl

-- a letter's words are known by its table
abbrev Read : List ℕ → List ℕ → List ℕ → Type 0
Read cells columns words = (length words ≡ 16) × ((i : ℕ) → i < 16 → get_or words i 0 ≡ word_at cells (start_of i) columns)

words_read : (cells columns table words : List ℕ) → columns ≡ table → Read cells columns words → words ≡ collected cells table
words_read cells columns table words same (long, each) = fill_by_all (λ i. word_at cells (start_of i) columns) words 16 0 long each ∙ ap (collected cells) same

pub read_right : (cells A B C D a b c d : List ℕ) (r c1 c2 : ℕ) → A ≡ columns_a → B ≡ columns_b → C ≡ columns_c → D ≡ columns_d
    → Read cells A a → Read cells B b → Read cells C c → Read cells D d
    → r ≡ word_at cells 0 range_cells → c1 ≡ word_at cells 0 check_cells → c2 ≡ word_at cells 316 check_cells
    → listed_by a b c d r c1 c2 ≡ listed (heard_by (bit_of cells))
read_right cells A B C D a b c d r c1 c2 eA eB eC eD ra rb rc rd er e1 e2 =
    ap (λ x. listed_by x b c d r c1 c2) (words_read cells A columns_a a eA ra) ∙ ap (λ x. listed_by (collected cells columns_a) x c d r c1 c2) (words_read cells B columns_b b eB rb)
    ∙ ap (λ x. listed_by (collected cells columns_a) (collected cells columns_b) x d r c1 c2) (words_read cells C columns_c c eC rc)
    ∙ ap (λ x. listed_by (collected cells columns_a) (collected cells columns_b) (collected cells columns_c) x r c1 c2) (words_read cells D columns_d d eD rd)
    ∙ ap (λ x. listed_by (collected cells columns_a) (collected cells columns_b) (collected cells columns_c) (collected cells columns_d) x c1 c2) er
    ∙ ap (λ x. listed_by (collected cells columns_a) (collected cells columns_b) (collected cells columns_c) (collected cells columns_d) (word_at cells 0 range_cells) x c2) e1
    ∙ ap (listed_by (collected cells columns_a) (collected cells columns_b) (collected cells columns_c) (collected cells columns_d) (word_at cells 0 range_cells) (word_at cells 0 check_cells)) e2
    ∙ all_words cells
