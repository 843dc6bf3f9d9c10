-- What follows a sheet's text changes nothing that its whole lines say: a fault that was found in them stays.
use Rattle.std.proofs.Common.{◌≡◌, ◌≢◌, ℕ, inl, inr, List, [], ◌++◌, Result, Ok, Err, refl, sym, ap, ◌∙◌}
use Rattle.dual_cert_plan.specs.Sheets.{SheetParts, IsSheet}
use Rattle.dual_cert_text.specs.declared.fault.TextFault.{TextFault}
use Rattle.dual_cert_text.specs.declared.fault.TextFault.TheVariants.{BadLine, TooLarge, NotCanonical, Truncated}
use Rattle.dual_cert_text.specs.Texts.{reading}
use Rattle.dual_cert_text.proofs.Beginnings.{bind_err, ok_is_no_err, reading_stays}
use Rattle.dual_cert_text.proofs.Steps.{bind_ok}
use Rattle.dual_cert_sheet.specs.SheetSpellings.{sheet_spelling}
use Rattle.dual_cert_sheet.specs.SheetTexts.{sheet_format, sheet_of_text}
use Rattle.dual_cert_sheet.proofs.SheetLaws.{sheet_found, sheet_again, sheet_alone}

-- a fault of a sheet's text stays, whatever follows the text
pub sheet_fault_stays : (front rest : List ℕ) (fault : TextFault) → fault ≢ Truncated → sheet_of_text front ≡ Err fault → sheet_of_text (front ++ rest) ≡ Err fault
unfolding sheet_of_text
sheet_fault_stays front rest fault other is = elim (bind_err (reading sheet_format front) _ fault is) [
  | inl failed ↦ rw (reading_stays sheet_format front rest fault other failed) refl
  | inr read ↦ absurd (ok_is_no_err read.0.sheet fault read.2)
]

-- each text that a sheet's text goes on from is truncated
pub sheet_begun : (sheet : SheetParts) (front rest : List ℕ) → IsSheet sheet → rest ≢ [] → sheet_spelling sheet ≡ front ++ rest → sheet_of_text front ≡ Err Truncated
unfolding sheet_of_text
sheet_begun sheet front rest kept more begins = told (sheet_of_text front) refl
  where
    again : sheet_of_text (front ++ rest) ≡ Ok sheet
    again = ap sheet_of_text (sym begins) ∙ rw (sheet_again sheet kept) refl

    no_other : (fault : TextFault) → fault ≢ Truncated → sheet_of_text front ≡ Err fault → ⊥
    no_other fault other is = ok_is_no_err sheet fault (sym again ∙ sheet_fault_stays front rest fault other is)

    no_sheet : (s : SheetParts) → sheet_of_text front ≡ Ok s → ⊥
    no_sheet s is =
        let read = bind_ok (reading sheet_format front) _ s is in
        let found = sheet_found front read.0 read.1 in
        more (sheet_alone read.0.sheet sheet rest found.0 kept (begins ∙ ap (λ t. t ++ rest) found.1)).1

    told : (r : Result SheetParts TextFault) → sheet_of_text front ≡ r → sheet_of_text front ≡ Err Truncated
    told (Ok s) is = absurd (no_sheet s is)
    told (Err Truncated) is = is
    told (Err (BadLine n)) is = absurd (no_other (BadLine n) (λ e. cc) is)
    told (Err TooLarge) is = absurd (no_other TooLarge (λ e. cc) is)
    told (Err NotCanonical) is = absurd (no_other NotCanonical (λ e. cc) is)
