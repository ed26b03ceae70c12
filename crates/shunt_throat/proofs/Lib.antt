mod SharedDuties
