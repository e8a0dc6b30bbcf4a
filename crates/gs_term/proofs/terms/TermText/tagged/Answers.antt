use Rattle.std.proofs.Common.{rules, arith, ◌≡◌, ◌≤◌, true, length}
use Rattle.std.specs.Str.{str_to_ascii_lowercase}
use Rattle.gs_model.specs.Limits.{max_term_bytes}
use Rattle.gs_model.specs.Terms.{Literal, Tagged, text_of, is_tag}
use Rattle.gs_term.proofs.MakingLemmas.{canonical, term_of-bytes, length-literal, length-tag, literal_bytes}
use Rattle.gs_term.proofs.terms.TermText.tagged.Goals as goal

pub returns-then-tag-gt-MAX_TERM_BYTES : goal.returns-then-tag-gt-MAX_TERM_BYTES
returns-then-tag-gt-MAX_TERM_BYTES c =
    let formed : is_tag (str_to_ascii_lowercase c.args.tag.now) ≡ true = search rules in (formed, omega (arith, length-literal c.args.lexical.now (Tagged (str_to_ascii_lowercase c.args.tag.now)), length-tag c.args.tag.now))

pub returns-in_default : goal.returns-in_default
returns-in_default c =
    let formed : is_tag (str_to_ascii_lowercase c.args.tag.now) ≡ true = search rules in (formed, omega (arith, length-literal c.args.lexical.now (Tagged (str_to_ascii_lowercase c.args.tag.now)), length-tag c.args.tag.now, c.in_default.ensures.long))

pub returns-in_err-bytes : goal.returns-in_err-bytes
returns-in_err-bytes c =
    let formed : is_tag (str_to_ascii_lowercase c.args.tag.now) ≡ true = search rules in
    let short : length (text_of (Literal c.args.lexical.now (Tagged (str_to_ascii_lowercase c.args.tag.now)))) ≤ max_term_bytes = omega (arith, length-literal c.args.lexical.now (Tagged (str_to_ascii_lowercase c.args.tag.now)), length-tag c.args.tag.now, c.in-Some.ensures.fits) in
    search (rules, formed, short)

pub returns-in_err-push_tag : goal.returns-in_err-push_tag
returns-in_err-push_tag c =
    let formed : is_tag (str_to_ascii_lowercase c.args.tag.now) ≡ true = search rules in
    let short : length (text_of (Literal c.args.lexical.now (Tagged (str_to_ascii_lowercase c.args.tag.now)))) ≤ max_term_bytes = omega (arith, length-literal c.args.lexical.now (Tagged (str_to_ascii_lowercase c.args.tag.now)), length-tag c.args.tag.now, c.in-Some.ensures.fits) in
    search (rules, formed, short)

pub invariant_of-result : goal.invariant_of-result
invariant_of-result c =
    let formed : is_tag (str_to_ascii_lowercase c.args.tag.now) ≡ true = search rules in
    let short : length (text_of (Literal c.args.lexical.now (Tagged (str_to_ascii_lowercase c.args.tag.now)))) ≤ max_term_bytes = omega (arith, length-literal c.args.lexical.now (Tagged (str_to_ascii_lowercase c.args.tag.now)), length-tag c.args.tag.now, c.in-Some.ensures.fits) in
    let e : c.push_tag.new.bytes.items ≡ text_of (Literal c.args.lexical.now (Tagged (str_to_ascii_lowercase c.args.tag.now))) = rw (c.in_ok-push_tag.ensures, c.in_ok-bytes.ensures, c.as_bytes-2.ensures.value) (literal_bytes c.args.lexical.now (Tagged (str_to_ascii_lowercase c.args.tag.now))) in
    canonical (Literal c.args.lexical.now (Tagged (str_to_ascii_lowercase c.args.tag.now))) _ e formed (c.utf8.lexical, tt) (rw e short)

pub returns : goal.returns
returns c =
    let formed : is_tag (str_to_ascii_lowercase c.args.tag.now) ≡ true = search rules in
    let short : length (text_of (Literal c.args.lexical.now (Tagged (str_to_ascii_lowercase c.args.tag.now)))) ≤ max_term_bytes = omega (arith, length-literal c.args.lexical.now (Tagged (str_to_ascii_lowercase c.args.tag.now)), length-tag c.args.tag.now, c.in-Some.ensures.fits) in
    let e : c.push_tag.new.bytes.items ≡ text_of (Literal c.args.lexical.now (Tagged (str_to_ascii_lowercase c.args.tag.now))) = rw (c.in_ok-push_tag.ensures, c.in_ok-bytes.ensures, c.as_bytes-2.ensures.value) (literal_bytes c.args.lexical.now (Tagged (str_to_ascii_lowercase c.args.tag.now))) in
    (term_of-bytes (Literal c.args.lexical.now (Tagged (str_to_ascii_lowercase c.args.tag.now))) _ e, formed, short)
