use Rattle.std.proofs.Common.{◌≡◌, ◌≤◌, ◌<◌, ◌++◌, [], length, take, drop, Some, refl, sym, ap, ◌∙◌, subst, append-nil, arith}
use Rattle.std.proofs.lemmas.List.{take-append-drop}
use Rattle.gs_tree.specs.Reading.{keys_at, keys_from}
use Rattle.gs_tree.proofs.FromLemmas.{from_all}
use Rattle.gs_keys.specs.Texts.{key_cmp, key_total}
use Rattle.gs_joins.specs.Numbers.{numbers_of}
use Rattle.gs_match.specs.Candidates.{instances_in, Sifts}
use Rattle.gs_match.proofs.ChunkLemmas.{all_read, rest_after, fewer, chunk_more}
use Rattle.gs_match.proofs.candidates.append_all.Goals as goal

pub chunks-init : goal.chunks-init
chunks-init c = record {
  bound = refl;
  parts = ap (λ zs. c.args.to.now.items ++ instances_in (numbers_of c.args.bound.now.items) c.args.sought.now zs)
      (from_all (key_cmp c.args.keys.now.order.dict.now.terms) (keys_at c.args.keys.now.pool.now c.args.keys.now.root));
}

pub returns-then-len-lt-CHUNK : goal.returns-then-len-lt-CHUNK
returns-then-len-lt-CHUNK c =
    let cmp = key_cmp c.args.keys.now.order.dict.now.terms in
    let ks = keys_at c.args.keys.now.pool.now c.args.keys.now.root in
    let read = c.next_keys.new.to.items in
    let old = c.args.bound.now.items in
    let s = c.args.sought.now in
    let left = keys_from cmp c.chunks.from ks in
    let is_read : read ≡ take 1024 left = c.in_ok-next_keys.ensures.ok ∙ ap (λ xs. xs ++ take 1024 left) c.clear.ensures.items in
    let few : length read < 1024 = omega (arith, c.if-len-lt-CHUNK.true, c.len.ensures) in
    let sifts : Sifts c.chunks.bound.items c.sift_all.new.bound.items s read c.chunks.to.items c.sift_all.new.to.items =
    subst (λ xs. Sifts c.chunks.bound.items c.sift_all.new.bound.items s xs c.chunks.to.items c.sift_all.new.to.items) c.as_slice.ensures.value c.in_ok-sift_all.ensures in
    record {
      bound = sifts.bound ∙ c.chunks.invariant.bound;
      more = sym (append-nil c.sift_all.new.to.items)
          ∙ chunk_more old c.chunks.bound.items c.sift_all.new.bound.items s c.args.to.now.items c.sift_all.new.to.items c.chunks.to.items left read [] ks c.chunks.invariant.bound c.chunks.invariant.parts
          (all_read 1024 read left is_read few) sifts;
    }

pub chunks-smaller : goal.chunks-smaller
chunks-smaller c =
    let terms = c.args.keys.now.order.dict.now.terms in
    let cmp = key_cmp terms in
    let ks = keys_at c.args.keys.now.pool.now c.args.keys.now.root in
    let read = c.next_keys.new.to.items in
    let left = keys_from cmp c.chunks.from ks in
    let is_read : read ≡ take 1024 left = c.in_ok-next_keys.ensures.ok ∙ ap (λ xs. xs ++ take 1024 left) c.clear.ensures.items in
    let full : 1024 ≤ length read = omega (arith, c.if-len-lt-CHUNK.false, c.len.ensures) in
    fewer cmp (key_total terms) ks c.requires.graph.set.rising 1024 c.chunks.from read 1023 c.index.result.now c.index.result.now refl is_read full c.index.ensures

pub chunks-preserved : goal.chunks-preserved
chunks-preserved c =
    let terms = c.args.keys.now.order.dict.now.terms in
    let cmp = key_cmp terms in
    let ks = keys_at c.args.keys.now.pool.now c.args.keys.now.root in
    let read = c.next_keys.new.to.items in
    let old = c.args.bound.now.items in
    let s = c.args.sought.now in
    let left = keys_from cmp c.chunks.from ks in
    let is_read : read ≡ take 1024 left = c.in_ok-next_keys.ensures.ok ∙ ap (λ xs. xs ++ take 1024 left) c.clear.ensures.items in
    let full : 1024 ≤ length read = omega (arith, c.if-len-lt-CHUNK.false, c.len.ensures) in
    let sifts : Sifts c.chunks.bound.items c.sift_all.new.bound.items s read c.chunks.to.items c.sift_all.new.to.items =
    subst (λ xs. Sifts c.chunks.bound.items c.sift_all.new.bound.items s xs c.chunks.to.items c.sift_all.new.to.items) c.as_slice.ensures.value c.in_ok-sift_all.ensures in
    let after : keys_from cmp (Some c.index.result.now) ks ≡ drop 1024 left = rest_after cmp (key_total terms) ks c.requires.graph.set.rising 1024 c.chunks.from read 1023 c.index.result.now c.index.result.now refl is_read full c.index.ensures in
    record {
      bound = sifts.bound ∙ c.chunks.invariant.bound;
      parts = chunk_more old c.chunks.bound.items c.sift_all.new.bound.items s c.args.to.now.items c.sift_all.new.to.items c.chunks.to.items left read (keys_from cmp (Some c.index.result.now) ks) ks
          c.chunks.invariant.bound c.chunks.invariant.parts
          (sym (take-append-drop 1024 left) ∙ ap (λ xs. xs ++ drop 1024 left) (sym is_read) ∙ ap (λ ys. read ++ ys) (sym after)) sifts;
    }
