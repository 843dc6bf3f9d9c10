pub use Rattle.dual_cert_text.specs.Faults
pub use Rattle.dual_cert_text.specs.PlanTexts
pub use Rattle.dual_cert_text.specs.Spellings
pub use Rattle.dual_cert_text.specs.declared.fault.ReadError
pub use Rattle.dual_cert_text.specs.declared.fault.TextFault
pub use Rattle.dual_cert_sheet.specs.SheetSpellings
pub use Rattle.dual_cert_sheet.specs.SheetTexts
