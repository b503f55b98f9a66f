use Rattle.std.proofs.Common.{rules, ◌≡◌, ℕ, ◌+◌, List, [], Option, Some, ap, subst, sym, ◌∙◌}
use Rattle.std.specs.Prelude.{unwrap_or}
use Rattle.pv_words.specs.Numbers.{IsBelow}
use Rattle.pv_words.specs.Parts.{AreThree}
use Rattle.pv_words.proofs.Values.{missing}
use Rattle.pv_account.specs.Profile.{Profile, digest_of}
use Rattle.pv_account.specs.declared.account.TheConstants.{LAST_CENTRE}
use Rattle.pv_editor.specs.Parts.{IsAccountText, IsPasswordText, IsOrDash}
use Rattle.pv_editor.specs.Groups.{IsGroupsText, AccountParts, profile_of}
use Rattle.pv_editor.proofs.groups.ProfileTextReader.read.Goals as goal

-- a password, a home centre and groups
abbrev Others : List ℕ → List ℕ × ℕ × Option (List ℕ) → Type 0
Others tail others = AreThree IsPasswordText (IsBelow (LAST_CENTRE + 1)) (IsOrDash IsGroupsText) tail others

-- an account is made of its parts
made : (number home : ℕ) (password digest groups : List ℕ) (some : Option (List ℕ)) → digest ≡ digest_of number password
    → groups ≡ unwrap_or some []
    → ◌≡◌ {A = Profile} (record { number = number; digest = digest; home = home; groups = groups })
    (profile_of (number, (password, home, some)))
made number home password digest groups some is are = λ i. record { number = number; digest = is i; home = home; groups = are i }

pub returns-in_err-password-clause-only : goal.returns-in_err-password-clause-only
returns-in_err-password-clause-only c = λ value gives.
    let are = gives.are in
    let same = c.split_word.ensures.only are.word are.later are.split in
    let others = subst (λ (t : List ℕ). Others t gives.parts.1) (sym same.1) are.others in
    absurd (missing _ (c.in_err-password.ensures.only gives.parts.1 others))

pub returns-clause-found : goal.returns-clause-found
returns-clause-found c =
    let groups : c.unwrap_or.result ≡ unwrap_or c.in_ok-password.groups [] = search rules in
    record {
      parts = (c.in_ok-number.number, (c.in_ok-password.password, c.in_ok-password.home, c.in_ok-password.groups));
      are = record {
        word = _;
        later = _;
        split = c.split_word.ensures.found;
        first = c.in_ok-number.ensures.found;
        others = c.in_ok-password.ensures.found;
      };
      is = made c.in_ok-number.number c.in_ok-password.home c.in_ok-password.password _ _ c.in_ok-password.groups c.digest.ensures groups;
    }

pub returns-clause-only : goal.returns-clause-only
returns-clause-only c = λ value gives.
    let are = gives.are in
    let same = c.split_word.ensures.only are.word are.later are.split in
    let groups : c.unwrap_or.result ≡ unwrap_or c.in_ok-password.groups [] = search rules in
    let first = c.in_ok-number.ensures.only gives.parts.0 (subst (λ (t : List ℕ). IsAccountText gives.parts.0 t) (sym same.0) are.first) in
    let tail = subst (λ (t : List ℕ). Others t gives.parts.1) (sym same.1) are.others in
    let later = c.in_ok-password.ensures.only gives.parts.1 tail in
    let number : c.in_ok-number.number ≡ gives.parts.0 = cc in
    let others : (c.in_ok-password.password, c.in_ok-password.home, c.in_ok-password.groups) ≡ gives.parts.1 = cc in
    let read : AccountParts = (c.in_ok-number.number, (c.in_ok-password.password, c.in_ok-password.home, c.in_ok-password.groups)) in
    let parts : read ≡ gives.parts = λ i. (number i, others i) in
    let account =
    made c.in_ok-number.number c.in_ok-password.home c.in_ok-password.password _ _ c.in_ok-password.groups c.digest.ensures groups in
    ap (λ (p : Profile). Some p) (account ∙ ap profile_of parts ∙ sym gives.is)
